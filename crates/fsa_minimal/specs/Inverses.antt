-- Which states lead to a state at one letter, from the last one back.
use Rattle.std.specs.Prelude.{◌≡◌, ◌≢◌, ◌<◌, ◌≤◌, ℕ, List, Option, Some, None, All, slice_get, length}
use Rattle.fsa.specs.Complete.{Complete, next_state}
use Rattle.fsa_minimal.specs.declared.inverse.Inverse.{Inverse}

-- the last state below the bound that leads to the state, or None where there is none
abbrev pub IsLastBelow : {L : Type 0} → Complete L → ℕ → ℕ → ℕ → Option ℕ → Type 0
IsLastBelow a place to bound None = (r : ℕ) → r < bound → next_state a r place ≢ Some to
IsLastBelow a place to bound (Some s) = (s < bound) × (next_state a s place ≡ Some to) × ((r : ℕ) → r < bound → next_state a r place ≡ Some to → r ≤ s)

-- for each state the last one below the bound that leads to it, and for each state below the bound the one before it
-- that leads to the same state
pub record IsInverse {L : Type 0} (a : Complete L) (place bound : ℕ) (lasts befores : List (Option ℕ)) : Type 0 where
  pub last_count : length lasts ≡ length a.finals
  pub before_count : length befores ≡ bound
  pub last : (to : ℕ) (o : Option ℕ) → slice_get lasts to ≡ Some o → IsLastBelow a place to bound o
  pub before : (s to : ℕ) (o : Option ℕ) → slice_get befores s ≡ Some o → next_state a s place ≡ Some to → IsLastBelow a place to s o

-- each is the inverse at its place, which a letter has
abbrev pub AreInverses : {L : Type 0} → Complete L → List Inverse → Type 0
AreInverses a inverses = All (λ inverse. (inverse.place < length a.letters) × IsInverse a inverse.place (length a.finals) inverse.last.items inverse.before.items) inverses
