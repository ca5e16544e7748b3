-- A set of numbers below a bound, as the list of its numbers in the order in which they were found.
use Rattle.std.specs.Prelude.{◌≡◌, ◌<◌, ◌≤◌, ◌++◌, ◌⊎◌, ℕ, List, All, Contains, length}

pub record Marks : Type 0 where
  pub bound : ℕ
  pub found : List ℕ

-- the numbers are below the bound, and no more than there are below it
pub record IsBounded (m : Marks) : Type 0 where
  pub within : All (λ k. k < m.bound) m.found
  pub few : length m.found ≤ m.bound

-- more was found, and of that nothing but what passes the test
pub record Grows (old new : Marks) (P : ℕ → Type 0) : Type 0 where
  pub bound : new.bound ≡ old.bound
  pub grown : (more : List ℕ) × (new.found ≡ old.found ++ more)
  pub only : (k : ℕ) → Contains new.found k → Contains old.found k ⊎ P k

-- the numbers that pass the test were added, and no others
pub record Adds (old new : Marks) (P : ℕ → Type 0) : Type 0 where
  pub grows : Grows old new P
  pub all : (k : ℕ) → P k → Contains new.found k
