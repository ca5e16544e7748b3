-- Epsilon closure (Hopcroft, Motwani and Ullman, Introduction to Automata Theory, section 2.5.3).
use Rattle.std.specs.Prelude.{ℕ, List, None, Contains}
use Rattle.fsa.specs.declared.automaton.Edge.{Edge}

-- a path of epsilon edges leads from the first state to the second
pub data Reaches {L : Type 0} (edges : List (Edge L)) : ℕ → ℕ → Type 0 where
  here : {p : ℕ} → Reaches edges p p
  along : {p q r : ℕ} → Contains edges (record { from = p; letter = None; to = q }) → Reaches edges q r → Reaches edges p r

-- a path of epsilon edges leads to the state from one of these
abbrev pub IsReached : {L : Type 0} → List (Edge L) → List ℕ → ℕ → Type 0
IsReached edges states q = (p : ℕ) × Contains states p × Reaches edges p q
