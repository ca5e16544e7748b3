-- What stays of a name when one project is changed to another.
use Rattle.std.specs.Prelude.{◌≡◌, ◌↔◌, ℕ, List, Contains, Some, map, slice_get}
use Rattle.word_relations.specs.Words.{IsDistinct}
use Rattle.word_relations.specs.Relations.{AreSame}
use Rattle.project_meaning.specs.Centres.{HasOwnEmptyCentre}
use Rattle.project_meaning.specs.Leaves.{names_in}
use Rattle.project_meaning.specs.Meaning.{Meaning}
use Rattle.project_meaning.specs.Projects.{Definition, Project, HasNoCycle, IsClosed}
use Rattle.project_meaning.specs.Touched.{Touched}

-- each name that a definition refers to is defined, no name reaches itself, and each definition has a name of its own
pub record IsOrderly (project : Project) : Type 0 where
  pub closed : IsClosed project
  pub acyclic : HasNoCycle project
  pub names : IsDistinct (map (λ d. d.name) project.definitions)

-- The name has one definition in both projects, which refers to untouched names alone; it relates the same words in both, and has an own
-- empty centre in both or in neither
pub record Stays (old new : Project) (name : List ℕ) : Type 0 where
  pub definition : Definition
  pub named : definition.name ≡ name
  pub before : Contains old.definitions definition
  pub now : Contains new.definitions definition
  pub refers : (other : List ℕ) → Contains (names_in definition.body) other → Touched old new other → ⊥
  pub meaning : AreSame (Meaning old name) (Meaning new name)
  pub centre : HasOwnEmptyCentre old name ↔ HasOwnEmptyCentre new name

-- at this place stands the same text in both alphabets
abbrev pub IsSameAt : List (List ℕ) → List (List ℕ) → ℕ → Type 0
IsSameAt old new place = (text : List ℕ) × (slice_get old place ≡ Some text) × (slice_get new place ≡ Some text)
