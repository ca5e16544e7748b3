-- The states that edges enter.
use Rattle.std.specs.Prelude.{◌≡◌, ◌<◌, ℕ, List, Option, Contains}
use Rattle.fsa.specs.declared.automaton.Edge.{Edge}

-- an edge with this letter, or an epsilon edge for None, enters the state
abbrev pub IsTarget : {L : Type 0} → List (Edge L) → Option L → ℕ → Type 0
IsTarget {L} edges letter state = (e : Edge L) × Contains edges e × (e.letter ≡ letter) × (e.to ≡ state)

-- each edge enters a state below the bound
abbrev pub AreWithin : {L : Type 0} → List (Edge L) → ℕ → Type 0
AreWithin {L} edges bound = (e : Edge L) → Contains edges e → e.to < bound
