-- Chains of states, each of which comes before the one that is named.
use Rattle.std.proofs.Common.{◌≡◌, ℕ, ◌+◌, ◌<◌, List, Option, Some, None}
use Rattle.std.specs.List.{slice_get}

-- the states that are named are below the bound
abbrev pub AreBelow : List (Option ℕ) → ℕ → Type 0
AreBelow named bound = (t s : ℕ) → slice_get named t ≡ Some (Some s) → s < bound

-- the state that is named at a place is below the place
abbrev pub IsDescending : List (Option ℕ) → Type 0
IsDescending named = (t s : ℕ) → slice_get named t ≡ Some (Some s) → s < t

-- how far a chain may still go from what is named
abbrev pub left_of : Option ℕ → ℕ
left_of None = 0
left_of (Some s) = s + 1
