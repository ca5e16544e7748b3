-- Laws of what a change doesn't touch.
use Rattle.std.specs.Prelude.{ℕ, List}
use Rattle.project_meaning.specs.Projects.{Project, Defines, Reaches}
use Rattle.project_meaning.specs.Touched.{Touched}
use Rattle.touched_names.specs.Staying.{Stays, IsOrderly}

-- a name that isn't touched stays what it was
abbrev pub UntouchedNamesStay : Type 0
UntouchedNamesStay = (old new : Project) → IsOrderly old → IsOrderly new → (name : List ℕ) → Defines new name → (Touched old new name → ⊥) → Stays old new name

-- a name that reaches a touched name is touched: what an untouched name reaches isn't
abbrev pub TouchSpreads : Type 0
TouchSpreads = (old new : Project) (name other : List ℕ) → Reaches new name other → Touched old new other → Touched old new name
