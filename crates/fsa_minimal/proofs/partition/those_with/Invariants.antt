use Rattle.std.proofs.Common.{◌↔◌, IsTrue, take}
use Rattle.std.specs.List.{Contains}
use Rattle.fsa_minimal.proofs.Kept.{Keeps}
use Rattle.fsa_minimal.proofs.partition.those_with.Given as goal

abbrev pub invariant-loop-state : goal.invariant-loop-state
invariant-loop-state l = Keeps (λ s. IsTrue l.are_marked ↔ Contains l.marked.found s) (take l.state-index l.states) l.part.items
