-- What is gathered of the symbols among leaves.
use Rattle.std.specs.Prelude.{◌⊎◌, ◌↔◌, List, Contains}
use Rattle.fsm_base.specs.declared.letters.Sym.{Sym as Symbol}
use Rattle.regex_ast.specs.declared.expr.Atom.{Atom}
use Rattle.regex_ast.specs.declared.expr.Atom.TheVariants.{Sym}

-- the symbols are the old ones, and those among these leaves
abbrev pub AddsLeaves : List Symbol → List Symbol → List Atom → Type 0
AddsLeaves old new leaves = (s : Symbol) → Contains new s ↔ (Contains old s ⊎ Contains leaves (Sym s))
