-- A finite automaton with epsilon edges (Hopcroft, Motwani and Ullman, Introduction to Automata Theory,
-- section 2.5; Beesley and Karttunen, Finite State Morphology, 2003, section 2.2). States are counted from
-- 0, state 0 is the start, and `finals` says of each state whether it is final.
use Rattle.std.specs.Prelude.{◌≡◌, ◌<◌, ℕ, List, Bool, true, Some, Contains, slice_get, length}
use Rattle.fsa.specs.declared.automaton.Edge.{Edge}

pub record Automaton (L : Type 0) : Type 0 where
  pub edges : List (Edge L)
  pub finals : List Bool

-- there is a start, and edges go between states that are there
pub record IsWellFormed {L : Type 0} (m : Automaton L) : Type 0 where
  pub start : 0 < length m.finals
  pub within : (e : Edge L) → Contains m.edges e → (e.from < length m.finals) × (e.to < length m.finals)

abbrev pub IsFinal : {L : Type 0} → Automaton L → ℕ → Type 0
IsFinal m state = slice_get m.finals state ≡ Some true

-- some edge carries the letter
abbrev pub UsesLetter : {L : Type 0} → Automaton L → L → Type 0
UsesLetter {L} m x = (e : Edge L) × Contains m.edges e × (e.letter ≡ Some x)

-- no edge is epsilon
abbrev pub HasNoEpsilonEdge : {L : Type 0} → Automaton L → Type 0
HasNoEpsilonEdge {L} m = (e : Edge L) → Contains m.edges e → (x : L) × (e.letter ≡ Some x)
