use Rattle.fsa_subset.proofs.Partly.{final_more}
use Rattle.fsa_subset.proofs.spread.finals_of.Goals as goal

pub sets-preserved : goal.sets-preserved
sets-preserved c =
    rw c.in_ok-push.ensures.items (final_more c.args.finals.now c.args.found.now.sets c.sets.number c.set.result.now c.sets.marks.items c.any_final.result c.set.ensures c.any_final.ensures c.sets.invariant)
