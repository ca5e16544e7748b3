use Rattle.std.proofs.Common.{arith}
use Rattle.fsm_io.specs.Buffers.{most_ahead}
use Rattle.fsm_io.proofs.held.Held.new.Goals as goal

pub invariant_of-result : goal.invariant_of-result
unfolding most_ahead
invariant_of-result c =
    (omega arith, omega arith, omega (arith, c.in_ok-vec.ensures.len), omega (arith, c.in_ok-vec.ensures.len))
