use Rattle.fsa_explore.proofs.Marking.{IsMarking-new}
use Rattle.fsa_explore.proofs.number_set.NumberSet.new.Goals as goal

pub invariant_of-result : goal.invariant_of-result
invariant_of-result c = rw (c.in_ok-vec.ensures.items_if_clones_equal (λ y h. h), c.new.ensures.items) (IsMarking-new c.args.bound)
