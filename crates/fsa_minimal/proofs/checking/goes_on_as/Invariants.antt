use Rattle.fsa_minimal.proofs.Images.{GoesOnBelow}
use Rattle.fsa_minimal.proofs.checking.goes_on_as.Given as goal

abbrev pub invariant-loop-place : goal.invariant-loop-place
invariant-loop-place g l = GoesOnBelow l.a l.b l.images l.state l.image l.place
