-- Places in a word, and marks of them. Places are counted from 0.
use Rattle.std.specs.Prelude.{◌≡◌, ◌<◌, ◌↔◌, ℕ, Bool, true, List, None, Some, Option, MatchOption, length, min, slice_get}
use Rattle.pair_test.specs.Verdicts.{IsLeast}

-- these are the places of the word's letters among some letters
pub record AreAt {L : Type 0} (letters : List L) (places : List ℕ) (word : List L) : Type 0 where
  pub count : length places ≡ length word
  pub each : (k place : ℕ) → slice_get places k ≡ Some place → slice_get letters place ≡ slice_get word k

-- the number is marked
abbrev pub IsMarked : List Bool → ℕ → Type 0
IsMarked marks k = slice_get marks k ≡ Some true

-- of the numbers below n those are marked for which something holds
pub record AreMarks (P : ℕ → Type 0) (n : ℕ) (marks : List Bool) : Type 0 where
  pub count : length marks ≡ n
  pub each : (k : ℕ) → k < n → IsMarked marks k ↔ P k

-- the least number for which something holds, or that there is none
abbrev pub IsLeastFound : (ℕ → Type 0) → Option ℕ → Type 0
IsLeastFound P found = MatchOption found ((n : ℕ) → ¬ P n) (IsLeast P)

-- the lesser of two numbers, where there are any
abbrev pub earliest : Option ℕ → Option ℕ → Option ℕ
earliest (Some a) (Some b) = Some (min a b)
earliest (Some a) None = Some a
earliest None second = second
