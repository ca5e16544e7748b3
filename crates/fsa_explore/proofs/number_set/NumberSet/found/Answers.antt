use Rattle.fsa_explore.proofs.Marking.{IsMarking-bounded}
use Rattle.fsa_explore.proofs.number_set.NumberSet.found.Goals as goal

pub returns-clause-bounded : goal.returns-clause-bounded
returns-clause-bounded c = rw (← c.self.view_is) (IsMarking-bounded _ _ c.self.invariant)
