-- The part of an automaton from which a final state is reached (the coaccessible part: Eilenberg, Automata,
-- Languages and Machines, volume A, 1974, section II.4).
use Rattle.std.specs.Prelude.{◌≡◌, ◌↔◌, ℕ, List, None, Contains}
use Rattle.fsa.specs.Automaton.{Automaton}
use Rattle.fsa.specs.Language.{AcceptsFrom}
use Rattle.fsa.specs.declared.automaton.Edge.{Edge}

-- some path leads from the state to a final one
abbrev pub IsLive : {L : Type 0} → Automaton L → ℕ → Type 0
IsLive {L} m state = (w : List L) × AcceptsFrom m state w

-- an epsilon edge in the other direction
abbrev pub back : {L : Type 0} → Edge L → Edge L
back e = record { from = e.to; letter = None; to = e.from }

-- the same states, and the edges that enter a state from which a final one is reached
pub record IsTrimmed {L : Type 0} (old new : Automaton L) : Type 0 where
  pub finals : new.finals ≡ old.finals
  pub edges : (e : Edge L) → Contains new.edges e ↔ (Contains old.edges e × IsLive old e.to)
