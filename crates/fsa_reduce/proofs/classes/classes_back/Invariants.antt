use Rattle.std.proofs.Common.{◌-◌, length}
use Rattle.fsa_reduce.proofs.Classing.{IsClassing}
use Rattle.fsa_reduce.proofs.classes.classes_back.Given as goal

abbrev pub invariant-loop-alloc : goal.invariant-loop-alloc
invariant-loop-alloc l = IsClassing l.finals l.rows l.signatures l.classes.items

abbrev pub decreases-loop-alloc : goal.decreases-loop-alloc
decreases-loop-alloc l = length l.finals - length l.classes.items
