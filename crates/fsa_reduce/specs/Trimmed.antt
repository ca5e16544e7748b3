-- An automaton without the states from which no final state is reached.
use Rattle.std.specs.Prelude.{◌≡◌, ℕ, List, Option, None, Some, Contains, slice_get}
use Rattle.fsa.specs.declared.automaton.Edge.{Edge}

-- the numbers of the states that are kept: each state's new number is its place in the list
pub record IsNumbering (order : List ℕ) (numbers : List (Option ℕ)) : Type 0 where
  pub only : (state number : ℕ) → slice_get numbers state ≡ Some (Some number) → slice_get order number ≡ Some state
  pub all : (state : ℕ) → Contains order state → (number : ℕ) × (slice_get numbers state ≡ Some (Some number))

-- the edge between the new numbers of its states
abbrev pub IsRenumbered : {L : Type 0} → List (Option ℕ) → Edge L → Edge L → Type 0
IsRenumbered numbers old e = (slice_get numbers old.from ≡ Some (Some e.from)) × (slice_get numbers old.to ≡ Some (Some e.to)) × (e.letter ≡ old.letter)

-- the edge without its letter, in the other direction
abbrev pub turned : {L : Type 0} → Edge L → Edge L
turned e = record { from = e.to; letter = None; to = e.from }
