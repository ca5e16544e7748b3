-- Orders of states.
use Rattle.std.specs.Prelude.{◌≡◌, ◌<◌, ℕ, List, Some, All, slice_get, length}
use Rattle.word_relations.specs.Words.{IsDistinct}
use Rattle.fsa.specs.declared.automaton.Edge.{Edge}

-- each edge leads to a later state
abbrev pub LeadOn : {L : Type 0} → List (Edge L) → Type 0
LeadOn {L} edges = (k : ℕ) (e : Edge L) → slice_get edges k ≡ Some e → e.from < e.to

-- each state stands at its place
abbrev pub StandThere : List ℕ → List ℕ → Type 0
StandThere places states = (state place : ℕ) → slice_get places state ≡ Some place → slice_get states place ≡ Some state

-- each of so many states has a place of its own, and the start the first one
pub record IsOrder (count : ℕ) (places : List ℕ) : Type 0 where
  pub number : length places ≡ count
  pub start : slice_get places 0 ≡ Some 0
  pub within : All (λ place. place < count) places
  pub distinct : IsDistinct places
