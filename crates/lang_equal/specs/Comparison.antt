-- What is told of two languages.
use Rattle.std.specs.Prelude.{◌↔◌, ⊤, List, IsTrue}
use Rattle.fsm_base.specs.declared.letters.Sym.{Sym}
use Rattle.lang_equal.specs.Difference.{Differs, IsShortest}
use Rattle.lang_equal.specs.declared.comparing.Compared.{Compared}
use Rattle.lang_equal.specs.declared.comparing.Compared.TheVariants.{Same, Differ}

-- a word that is told is a shortest one of those that differ, and it is told whether it is in the first set
abbrev pub IsShortestDifference : (List Sym → Type 0) → (List Sym → Type 0) → Compared → Type 0
IsShortestDifference P Q Same = ⊤
IsShortestDifference P Q (Differ first word) = IsShortest (Differs P Q) word.items × (IsTrue first ↔ P word.items)
