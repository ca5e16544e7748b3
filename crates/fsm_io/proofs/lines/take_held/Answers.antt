use Rattle.std.proofs.Common.{ap, arith, length}
use Rattle.fsm_io.proofs.Gathering.{moves_all}
use Rattle.fsm_io.proofs.lines.take_held.Goals as goal

pub returns-in-None-clause-moves : goal.returns-in-None-clause-moves
returns-in-None-clause-moves c =
    let bytes = c.as_slice-bytes.ensures in
    moves_all c.args.held.now _ _ _ c.fill-in-None.result (rw bytes at c.in-None.ensures) c.clear.ensures c.fill-in-None.ensures.bound (omega (arith, c.fill-in-None.ensures.count, ap length bytes)) (rw bytes at c.fill-in-None.ensures.held)
