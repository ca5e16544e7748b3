-- The language of an automaton: the words on its paths from the start to a final state, epsilon edges left out
-- (Hopcroft, Motwani and Ullman, section 2.5).
use Rattle.std.specs.Prelude.{ℕ, List, [], ◌∷◌, Some, None, Contains}
use Rattle.fsa.specs.Automaton.{Automaton, IsFinal}

-- some path from the state to a final state has these letters, epsilon edges left out
pub data AcceptsFrom {L : Type 0} (m : Automaton L) : ℕ → List L → Type 0 where
  stop : {p : ℕ} → IsFinal m p → AcceptsFrom m p []
  read : {p q : ℕ} {x : L} {w : List L} → Contains m.edges (record { from = p; letter = Some x; to = q }) → AcceptsFrom m q w → AcceptsFrom m p (x ∷ w)
  skip : {p q : ℕ} {w : List L} → Contains m.edges (record { from = p; letter = None; to = q }) → AcceptsFrom m q w → AcceptsFrom m p w

-- the word is in the language: some path from the start to a final state has its letters
abbrev pub Accepts : {L : Type 0} → Automaton L → List L → Type 0
Accepts m w = AcceptsFrom m 0 w
