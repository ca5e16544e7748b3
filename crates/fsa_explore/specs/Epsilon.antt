-- Edges that carry no letter.
use Rattle.std.specs.Prelude.{Bool, is_none}
use Rattle.fsa.specs.declared.automaton.Edge.{Edge}

abbrev pub is_epsilon : {L : Type 0} → Edge L → Bool
is_epsilon e = is_none e.letter
