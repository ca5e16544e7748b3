-- The numbers of an alphabet in a table, and expressions over it.
use Rattle.std.specs.Prelude.{ℕ, Bool, true, false, List, [], ◌∷◌, map}
use Rattle.std.specs.List.{list_any}
use Rattle.std.specs.Str.{bytes_eq}
use Rattle.fsm_base.specs.declared.letters.Sym.{Sym as Symbol}
use Rattle.fsm_base.specs.Symbols.{number_of}
use Rattle.project_meaning.specs.Trees.{Body}
use Rattle.project_meaning.specs.Leaves.{Leaf, symbol, named}
use Rattle.project_sources.specs.Built.{BodyIsBuiltBy}

-- the numbers of texts in a table
abbrev pub numbers_in : List (List ℕ) → List (List ℕ) → List Symbol
numbers_in table texts = map (λ text. record { 0 = number_of text table }) texts

-- a symbol of this alphabet
abbrev pub is_symbol_over : List (List ℕ) → Leaf → Bool
is_symbol_over alphabet (symbol []) = false
is_symbol_over alphabet (symbol (b ∷ bs)) = list_any (bytes_eq (b ∷ bs)) alphabet
is_symbol_over alphabet (named name) = false

-- such a symbol, or a name
abbrev pub is_leaf_over : List (List ℕ) → Leaf → Bool
is_leaf_over alphabet (symbol text) = is_symbol_over alphabet (symbol text)
is_leaf_over alphabet (named name) = true

-- a body whose leaves are such symbols and names, and whose insertions stand alone in their rules
abbrev pub IsBodyOver : List (List ℕ) → Body Leaf → Type 0
IsBodyOver alphabet body = BodyIsBuiltBy (is_leaf_over alphabet) (is_symbol_over alphabet) body
