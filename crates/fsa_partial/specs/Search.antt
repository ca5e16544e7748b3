-- Edges that are followed without being read.
use Rattle.std.specs.Prelude.{None}
use Rattle.fsa.specs.declared.automaton.Edge.{Edge}

-- the edge without its letter
abbrev pub bare : {L : Type 0} → Edge L → Edge L
bare e = record { from = e.from; letter = None; to = e.to }

-- the edge without its letter, in the other direction
abbrev pub turned : {L : Type 0} → Edge L → Edge L
turned e = record { from = e.to; letter = None; to = e.from }
