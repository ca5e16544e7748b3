use Rattle.std.proofs.Common.{arith}
use Rattle.fsm_io.specs.Buffers.{most_gathered}
use Rattle.fsm_io.proofs.outbox.Outbox.open.Goals as goal

pub invariant_of-result : goal.invariant_of-result
unfolding most_gathered
invariant_of-result c = rw c.in_ok-new.ensures (omega (arith, c.min.ensures))
