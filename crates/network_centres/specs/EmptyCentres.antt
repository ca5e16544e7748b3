-- Which names have an empty centre, by recursion: a law.
use Rattle.std.specs.Prelude.{◌≡◌, ◌↔◌, Bool, true, List, ℕ}
use Rattle.project_meaning.specs.Projects.{HasNoCycle, IsClosed, Project, Reaches}
use Rattle.project_meaning.specs.Centres.{HasEmptyCentre, HasOwnEmptyCentre}

-- By recursion a name has an empty centre where one of its definition's own centres has the empty word, and no name to which that refers, in any
-- number of steps, has an empty centre. These names are told so
abbrev pub AreToldByRecursion : Project → (List ℕ → Type 0) → Type 0
AreToldByRecursion project Told = (name : List ℕ) → Told name ↔ (HasOwnEmptyCentre project name × ((other : List ℕ) → Reaches project name other → Told other → ⊥))

-- where no name reaches itself, the names with an empty centre are told so
abbrev pub EmptyCentresUnfold : Type 0
EmptyCentresUnfold = (project : Project) → HasNoCycle project → IsClosed project → AreToldByRecursion project (HasEmptyCentre project)

-- and no others are
abbrev pub RecursionTellsEmptyCentres : Type 0
RecursionTellsEmptyCentres =
    (project : Project) (told : List ℕ → Bool) → AreToldByRecursion project (λ name. told name ≡ true) → (name : List ℕ) → (told name ≡ true) ↔ HasEmptyCentre project name
