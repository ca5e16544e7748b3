-- Edges between classes of states.
use Rattle.std.specs.Prelude.{◌≡◌, ◌<◌, ◌↔◌, ℕ, List, Some, Contains, slice_get}
use Rattle.fsa.specs.declared.automaton.Edge.{Edge}

-- each edge goes between states below the bound
abbrev pub AreWithinBoth : {L : Type 0} → List (Edge L) → ℕ → Type 0
AreWithinBoth {L} edges bound = (e : Edge L) → Contains edges e → (e.from < bound) × (e.to < bound)

-- the edge with the classes of its states, and the same letter
abbrev pub IsMoved : List ℕ → Edge ℕ → Edge ℕ → Type 0
IsMoved classes e f = (slice_get classes e.from ≡ Some f.from) × (f.letter ≡ e.letter) × (slice_get classes e.to ≡ Some f.to)

-- for the class of each state a state of it
abbrev pub AreOfClasses : List ℕ → List ℕ → Type 0
AreOfClasses classes states = (s k : ℕ) → slice_get classes s ≡ Some k → (r : ℕ) × (slice_get states k ≡ Some r) × (slice_get classes r ≡ Some k)

-- the state is the one of its class
abbrev pub IsOwn : List ℕ → List ℕ → ℕ → Type 0
IsOwn classes states s = (k : ℕ) × (slice_get classes s ≡ Some k) × (slice_get states k ≡ Some s)

-- the edges that leave such a state
abbrev pub AreOwn : List ℕ → List ℕ → List (Edge ℕ) → List (Edge ℕ) → Type 0
AreOwn classes states edges own = (e : Edge ℕ) → Contains own e ↔ (Contains edges e × IsOwn classes states e.from)
