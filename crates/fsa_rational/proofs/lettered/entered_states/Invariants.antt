use Rattle.std.proofs.Common.{◌≡◌, Some, length, take}
use Rattle.std.specs.List.{Contains}
use Rattle.fsa.specs.declared.automaton.Edge.{Edge}
use Rattle.fsa_rational.proofs.lettered.entered_states.Given as goal

abbrev pub invariant-loop-edge : goal.invariant-loop-edge
invariant-loop-edge g l =
    (l.states.bound ≡ length l.a.finals) × Contains l.states.found 0 ×
    ((e : Edge g.row.L.Denot) (x : g.row.L.Denot) → Contains (take l.edge-index l.edge-items) e → e.letter ≡ Some x → Contains l.states.found e.to)
