-- A homomorphism of complete automata (Holcombe, Algebraic Automata Theory, 1982, section 2.1): each state that the
-- start reaches becomes a state of the other automaton, which is final and goes on as it does.
use Rattle.std.specs.Prelude.{◌≡◌, ◌<◌, ℕ, List, Option, Some, slice_get, length}
use Rattle.fsa.specs.Complete.{Complete, next_state}

-- the state is final where the image is, and each letter leads it to a state that becomes the one to which the
-- letter leads the image
pub record GoesOnAs {L : Type 0} (a b : Complete L) (images : List (Option ℕ)) (state image : ℕ) : Type 0 where
  pub final : slice_get a.finals state ≡ slice_get b.finals image
  pub step : (place to : ℕ) → place < length a.letters → next_state a state place ≡ Some to
      → (u : ℕ) × (slice_get images to ≡ Some (Some u)) × (next_state b image place ≡ Some u)

-- the start becomes the start, and each state goes on as its image
pub record AreImages {L : Type 0} (a b : Complete L) (images : List (Option ℕ)) : Type 0 where
  pub start : slice_get images 0 ≡ Some (Some 0)
  pub there : (state image : ℕ) → slice_get images state ≡ Some (Some image) → state < length a.finals
  pub goes_on : (state image : ℕ) → slice_get images state ≡ Some (Some image) → GoesOnAs a b images state image
