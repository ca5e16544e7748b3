use Rattle.fsm_io.proofs.Gathering.{moves_newline, moves_all}
use Rattle.fsm_io.proofs.lines.take_held_into.Goals as goal

pub returns-in-Some : goal.returns-in-Some
unfolding moves_newline
returns-in-Some c =
    let bytes = c.as_slice-bytes.ensures in
    record {
      moves = moves_newline c.args.held.now _ _ _ c.in-Some.at c.fill.result (rw bytes at c.in-Some.ensures) c.skip.ensures c.fill.ensures.bound (rw bytes at c.fill.ensures.count) (rw bytes at c.fill.ensures.held);
      puts = rw bytes at c.put.ensures;
    }

pub returns-in-None : goal.returns-in-None
unfolding moves_all
returns-in-None c =
    let bytes = c.as_slice-bytes.ensures in
    record {
      moves = moves_all c.args.held.now _ _ _ c.fill-in-None.result (rw bytes at c.in-None.ensures) c.clear.ensures c.fill-in-None.ensures.bound (rw bytes at c.fill-in-None.ensures.count) (rw bytes at c.fill-in-None.ensures.held);
      puts = rw bytes at c.put-in-None.ensures;
    }
