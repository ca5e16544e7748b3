-- A plan that stands for what sources say: the same definitions over the numbers of a table.
use Rattle.std.specs.Prelude.{◌≡◌, ℕ, List, map, All}
use Rattle.word_relations.specs.Words.{IsDistinct}
use Rattle.project_meaning.specs.Projects.{names_of, with_texts}
use Rattle.project_sources.specs.Sources.{Said, project_in}
use Rattle.project_model.specs.Numbered.{numbers_in, IsBodyOver}
use Rattle.project_model.specs.Plans.{PlanView}
use Rattle.project_definitions.specs.Entries.{entry_in, entry_of}

-- The plan has the definitions that were said, in order, and the symbols of their alphabet, which stand in the table behind the
-- old ones. Each leaf is a symbol of the alphabet.
pub record Stands (said : Said) (old new : List (List ℕ)) (plan : PlanView) : Type 0 where
  pub definitions : map entry_of plan.definitions ≡ map (entry_in (names_of said.written) new) said.written
  pub symbols : plan.symbols ≡ numbers_in new (project_in said).alphabet
  pub table : new ≡ with_texts old (project_in said).alphabet
  pub leaves : All (λ d. IsBodyOver (project_in said).alphabet d.body) (project_in said).definitions
  pub distinct : IsDistinct (project_in said).alphabet
