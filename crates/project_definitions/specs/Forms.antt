-- The forms of definitions, by their places: each name has the kind and the weight of its definition.
use Rattle.std.specs.Prelude.{◌≡◌, ℕ, List, map, All, Contains}
use Rattle.std.specs.List.{flat_map}
use Rattle.fsm_base.specs.Symbols.{number_of}
use Rattle.word_relations.specs.Words.{IsDistinct}
use Rattle.expr_kinds.specs.Atoms.{kind_at, weight_at}
use Rattle.expr_kinds.specs.Forms.{capped}
use Rattle.expr_kinds.specs.declared.form.Form.{Form}
use Rattle.project_meaning.specs.Forms.{kind_in, weight_in}
use Rattle.project_meaning.specs.Leaves.{symbols_in}
use Rattle.project_meaning.specs.Projects.{Project, names_of}
use Rattle.project_sources.specs.Sources.{Said, project_in}
use Rattle.project_definitions.specs.Entries.{entry_of, entry_in}
use Rattle.project_definitions.specs.declared.definition.Definition.{Definition}

-- the definitions are those that were said, in order and each with a name of its own, over the numbers of a table that has
-- their symbols
pub record AreDefined (said : Said) (table : List (List ℕ)) (definitions : List Definition) : Type 0 where
  pub entries : map entry_of definitions ≡ map (entry_in (names_of said.written) table) said.written
  pub symbols : All (Contains table) (flat_map (λ d. symbols_in d.body) (project_in said).definitions)
  pub apart : IsDistinct (names_of said.written)

-- the form at the place of each of these names has the kind and the weight that the name has in the project, weights as far as
-- they are told apart
pub record AreForms (names : List (List ℕ)) (project : Project) (forms : List Form) : Type 0 where
  pub kinds : (name : List ℕ) → Contains names name → kind_at forms (number_of name names) ≡ kind_in project name
  pub weights : (name : List ℕ) → Contains names name → weight_at forms (number_of name names) ≡ capped (weight_in project name)
