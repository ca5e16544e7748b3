use Rattle.std.proofs.Common.{◌-◌}
use Rattle.fsa_explore.proofs.Closed.{IsClosing}
use Rattle.fsa_explore.proofs.closure.close.Given as goal

abbrev pub invariant-loop-next : goal.invariant-loop-next
invariant-loop-next g l = IsClosing l.rows l.initial.states l.states l.next

abbrev pub decreases-loop-next : goal.decreases-loop-next
decreases-loop-next g l = l.states.bound - l.next
