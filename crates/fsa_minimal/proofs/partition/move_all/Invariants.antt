use Rattle.std.proofs.Common.{take}
use Rattle.fsa_minimal.specs.Splitting.{IsMoved}
use Rattle.fsa_minimal.proofs.partition.move_all.Given as goal

abbrev pub invariant-loop-state : goal.invariant-loop-state
invariant-loop-state l = IsMoved (take l.state-index l.part) l.class l.fn.class_of.items l.class_of.items
