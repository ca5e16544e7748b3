-- Leaves by the numbers that their symbols and names have in another project.
use Rattle.std.specs.Prelude.{ℕ, List, slice_index_or}
use Rattle.regex_ast.specs.declared.expr.Atom.{Atom}
use Rattle.regex_ast.specs.declared.expr.Atom.TheVariants.{Sym, Name}
use Rattle.body_equality.specs.declared.renumbering.Renumbering.{Renumbering}

-- the number at a place, or the place itself where nothing stands there
abbrev pub number_at : List ℕ → ℕ → ℕ
number_at numbers place = slice_index_or numbers place place

abbrev pub renumbered : Renumbering → Atom → Atom
renumbered numbers (Sym s) = Sym (record { 0 = number_at numbers.symbols.items s.0 })
renumbered numbers (Name place) = Name (number_at numbers.names.items place)
