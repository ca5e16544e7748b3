-- Rows of numbers, while states are still found to be numbered.
use Rattle.std.specs.Prelude.{◌≡◌, ◌<◌, ℕ, List, Option, All, slice_get, length}

-- the states that got numbers are below the bound, and the next states are numbers that were given
pub record IsFolding (bound : ℕ) (states next : List ℕ) : Type 0 where
  pub states_within : All (λ state. state < bound) states
  pub next_within : All (λ number. number < length states) next

-- states of the same class become the same
pub record AreByClass (class_of : List ℕ) (images : List (Option ℕ)) : Type 0 where
  pub same : (s t : ℕ) → s < length class_of → slice_get class_of s ≡ slice_get class_of t → slice_get images s ≡ slice_get images t
