-- What leaves are where names are defined.
use Rattle.std.specs.Prelude.{ℕ, List}
use Rattle.regex_ast.specs.declared.expr.Atom.{Atom}
use Rattle.regex_ast.specs.declared.expr.Raw.{Raw}
use Rattle.project_meaning.specs.Leaves.{leaf_of, symbol_of}
use Rattle.name_resolution.specs.Numbered.{numbered}

-- what a leaf is where these names are defined and this table has the symbols
abbrev pub atom_of : List (List ℕ) → List (List ℕ) → Raw → Atom
atom_of names table leaf = numbered names table (leaf_of names leaf)

-- and where no name may stand
abbrev pub letter_of : List (List ℕ) → List (List ℕ) → Raw → Atom
letter_of names table leaf = numbered names table (symbol_of leaf)
