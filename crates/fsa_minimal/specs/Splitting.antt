-- Classes of states, and how they are split. A class is told by its number, and its states are looked up in a list of
-- its own.
use Rattle.std.specs.Prelude.{◌≡◌, ◌≢◌, ◌<◌, ◌≤◌, ◌⊎◌, ℕ, List, Some, Contains, slice_get, length}
use Rattle.std.specs.Prelude.{Vec}
use Rattle.std.specs.Global.{Global}

-- the list of the class has the state
abbrev pub Holds : List (Vec ℕ Global) → ℕ → ℕ → Type 0
Holds lists class state = (v : Vec ℕ Global) × (slice_get lists class ≡ Some v) × Contains v.items state

-- there is a list of members for each class, where each state of the class stands, and others may stand too
pub record AreClasses (members groups : List (Vec ℕ Global)) (sizes class_of : List ℕ) : Type 0 where
  pub groups_count : length groups ≡ length members
  pub sizes_count : length sizes ≡ length members
  pub held : (state class : ℕ) → slice_get class_of state ≡ Some class → Holds members class state

-- each of these states stands in the list of its class, where that is below a bound
abbrev pub HoldThese : List (Vec ℕ Global) → List ℕ → List ℕ → ℕ → Type 0
HoldThese lists class_of found bound = (state class : ℕ) → Contains found state → slice_get class_of state ≡ Some class → class < bound → Holds lists class state

-- states of different classes were of different ones before, or exactly one of them is among these
abbrev pub SplitsBy : List ℕ → List ℕ → List ℕ → Type 0
SplitsBy found old new = (s t : ℕ) → slice_get new s ≢ slice_get new t
    → (slice_get old s ≢ slice_get old t) ⊎ ((Contains found s × ¬ Contains found t) ⊎ (¬ Contains found s × Contains found t))

-- these states got the class, and the others kept theirs
pub record IsMoved (part : List ℕ) (class : ℕ) (old new : List ℕ) : Type 0 where
  pub count : length new ≡ length old
  pub moved : (state : ℕ) → Contains part state → slice_get new state ≡ Some class
  pub kept : (state : ℕ) → ¬ Contains part state → slice_get new state ≡ slice_get old state

-- what becomes of the classes where one of them is split
pub record IsSplit (found old new : List ℕ) (old_groups new_groups : List (Vec ℕ Global)) (old_count new_count : ℕ) : Type 0 where
  pub count : length new ≡ length old
  pub split : SplitsBy found old new
  pub kept : (state class : ℕ) → slice_get new state ≡ Some class → class < old_count → slice_get old state ≡ Some class
  pub groups : (class state : ℕ) → Holds old_groups class state → Holds new_groups class state
  pub more : old_count ≤ new_count
