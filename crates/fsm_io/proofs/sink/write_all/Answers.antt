use Rattle.std.proofs.Common.{arith}
use Rattle.fsm_io.proofs.Pieces.{written_next}
use Rattle.fsm_io.proofs.sink.write_all.Goals as goal

pub pieces-preserved : goal.pieces-preserved
pieces-preserved g c = record {
  written = written_next _ _ _ _ c.pieces.rest.now c.in-Ok.count c.pieces.invariant.written c.in-Ok.ensures.bytes;
  later = omega (arith, c.pieces.invariant.later, c.write.ensures.cause.later);
}
