-- Definitions by what they say, and those that are written, over the numbers of a table.
use Rattle.std.specs.Prelude.{ℕ, List}
use Rattle.regex_ast.specs.declared.expr.Atom.{Atom}
use Rattle.project_meaning.specs.Trees.{Body}
use Rattle.project_meaning.specs.Leaves.{resolved}
use Rattle.project_meaning.specs.Projects.{Written}
use Rattle.name_resolution.specs.Numbered.{numbered}
use Rattle.project_definitions.specs.Bodies.{mapped_body}
use Rattle.project_definitions.specs.Plain.{body_of}
use Rattle.project_definitions.specs.declared.definition.Definition.{Definition}

-- a definition: its name, the line and the file of its statement, and what it stands for
pub record Entry : Type 0 where
  pub name : List ℕ
  pub line : ℕ
  pub file : List ℕ
  pub body : Body Atom

abbrev pub entry_of : Definition → Entry
entry_of d = record { name = d.name; line = d.line; file = d.file; body = body_of d.body }

-- a definition as it is written, its leaves resolved by these names and numbered by this table
abbrev pub entry_in : List (List ℕ) → List (List ℕ) → Written → Entry
entry_in names table w = record { name = w.name; line = w.line; file = w.file; body = mapped_body (numbered names table) (resolved names w.body) }
