use Rattle.std.proofs.Common.{◌-◌, length}
use Rattle.fsa_reduce.proofs.Classing.{IsClassingBeside}
use Rattle.fsa_reduce.proofs.classes.classes_beside.Given as goal

abbrev pub invariant-loop-alloc : goal.invariant-loop-alloc
invariant-loop-alloc l = IsClassingBeside l.finals l.rows l.signatures l.known l.classes.items

abbrev pub decreases-loop-alloc : goal.decreases-loop-alloc
decreases-loop-alloc l = length l.finals - length l.classes.items
