use Rattle.std.proofs.Common.{take}
use Rattle.fsa_reduce.specs.Merging.{AreOwn}
use Rattle.fsa_reduce.proofs.merging.own_edges.Given as goal

abbrev pub invariant-loop-edge : goal.invariant-loop-edge
invariant-loop-edge l = AreOwn l.classes l.states (take l.edge-index l.edges) l.own.items
