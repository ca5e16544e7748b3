-- Marks that say of each number whether it stands in a list.
use Rattle.std.specs.Prelude.{◌≡◌, ℕ, List, Bool, true, Contains, Some, slice_get, length, count_by}

pub record IsMarking (marks : List Bool) (found : List ℕ) : Type 0 where
  pub marked : (k : ℕ) → Contains found k → slice_get marks k ≡ Some true
  pub only : (k : ℕ) → slice_get marks k ≡ Some true → Contains found k
  pub count : length found ≡ count_by (λ b. b) marks
