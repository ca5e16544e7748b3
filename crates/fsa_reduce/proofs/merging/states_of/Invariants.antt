use Rattle.fsa_reduce.proofs.Owned.{AreOfClassesBefore}
use Rattle.fsa_reduce.proofs.merging.states_of.Given as goal

abbrev pub invariant-loop-state : goal.invariant-loop-state
invariant-loop-state l = AreOfClassesBefore l.classes l.count l.state l.states.items
