-- Automata that accept the empty word at their start alone.
use Rattle.std.specs.Prelude.{◌≡◌, ◌≢◌, ◌↔◌, ℕ, Contains, slice_get}
use Rattle.fsa.specs.Automaton.{Automaton}
use Rattle.fsa.specs.declared.automaton.Edge.{Edge}

-- the edge enters another state than the start
abbrev pub EntersOther : {L : Type 0} → Edge L → Type 0
EntersOther e = e.to ≢ 0

-- the same edges, and the same final states but the start
pub record HasPlainStart {L : Type 0} (old new : Automaton L) : Type 0 where
  pub edges : (e : Edge L) → Contains new.edges e ↔ Contains old.edges e
  pub finals : (q : ℕ) → q ≢ 0 → slice_get new.finals q ≡ slice_get old.finals q
