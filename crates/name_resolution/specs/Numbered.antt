-- Leaves by the numbers of their symbols in a table.
use Rattle.std.specs.Prelude.{ℕ, List, [], ◌∷◌, length}
use Rattle.fsm_base.specs.Symbols.{number_of}
use Rattle.regex_ast.specs.declared.expr.Atom.{Atom}
use Rattle.regex_ast.specs.declared.expr.Atom.TheVariants.{Sym, Name}
use Rattle.project_meaning.specs.Leaves.{Leaf, symbol, named}

-- a symbol by its number in the table, and a name by its place among the names. An empty text is no symbol: its place is behind
-- all names
abbrev pub numbered : List (List ℕ) → List (List ℕ) → Leaf → Atom
numbered names table (symbol []) = Name (length names)
numbered names table (symbol (b ∷ bs)) = Sym (record { 0 = number_of (b ∷ bs) table })
numbered names table (named name) = Name (number_of name names)
