use Rattle.std.proofs.Common.{arith, refl}
use Rattle.fsm_io.proofs.Gathering.{gathering_start, gathering_more, gathering_kept, moves_kept, gathered, gathered_settled, gathered_over, gathered_failed, gathered_ended, length-nil}
use Rattle.fsm_io.proofs.Taking.{puts_nothing, puts_more}
use Rattle.fsm_io.proofs.lines.gather_into.Goals as goal

pub reads-init : goal.reads-init
unfolding gathering_start
reads-init g c = record {
  taking = record { gathering = gathering_start _ _ _ _ c.requires.room; puts = puts_nothing _ _ _ };
  spent = λ none. (none, refl);
  few = c.requires.few;
  later = omega arith;
}

pub returns-then-budget-eq0-clause-gathered : goal.returns-then-budget-eq0-clause-gathered
unfolding gathered_over gathered
returns-then-budget-eq0-clause-gathered g c =
    let before = c.reads.invariant.taking in
    let moved = c.reads-test.ensures in
    record {
      gathered = gathered_over _ _ _ _ _ _ _ _ _ _ before.gathering moved.moves c.if-budget-eq0.true;
      puts = puts_more _ _ before.gathering.piece _ moved.moves.piece _ _ _ before.puts moved.puts;
    }

pub returns-in-Err-clause-gathered : goal.returns-in-Err-clause-gathered
unfolding gathered_failed gathered gathering_kept moves_kept
returns-in-Err-clause-gathered g c =
    let before = c.reads.invariant.taking in
    let moved = c.reads-test.ensures in
    record {
      gathered = gathered_failed _ _ _ _ _ _ _ _ _ _ _ _ before.gathering moved.moves c.in-Err.ensures.bytes.consumed c.in-Err.ensures.bytes.nothing (omega arith);
      puts = puts_more _ _ before.gathering.piece _ moved.moves.piece _ _ _ before.puts moved.puts;
    }

pub returns-in-Ok-eq0-clause-gathered : goal.returns-in-Ok-eq0-clause-gathered
unfolding gathered_ended gathered gathering_kept moves_kept
returns-in-Ok-eq0-clause-gathered g c =
    let bytes = c.in-Ok-eq0.ensures.bytes in
    let before = c.reads.invariant.taking in
    let moved = c.reads-test.ensures in
    record {
      gathered = gathered_ended _ _ _ _ _ _ _ _ _ _ _ _ before.gathering moved.moves bytes.consumed (length-nil _ (omega (arith, bytes.count.0, c.in-Ok-eq0.field-0-test))) (omega arith) (bytes.count.2 c.in-Ok-eq0.field-0-test);
      puts = puts_more _ _ before.gathering.piece _ moved.moves.piece _ _ _ before.puts moved.puts;
    }

pub reads-preserved : goal.reads-preserved
unfolding gathering_more
reads-preserved g c =
    let before = c.reads.invariant.taking in
    let moved = c.reads-test.ensures in
    record {
      taking = record {
        gathering = gathering_more _ _ _ _ _ _ _ _ _ _ _ _ _ before.gathering moved.moves c.in-Ok.ensures.bytes.consumed (omega (arith, c.in-Ok.ensures.bytes.count.0, c.in-Ok.ensures.bytes.count.1));
        puts = puts_more _ _ before.gathering.piece _ moved.moves.piece _ _ _ before.puts moved.puts;
      };
      spent = λ none. absurd (c.if-budget-eq0.false (c.reads.invariant.spent none).0);
      few = c.in-Ok.ensures.few;
      later = omega (arith, c.reads.invariant.later, c.refill.ensures.cause.later);
    }

pub returns-clause-gathered : goal.returns-clause-gathered
unfolding gathered_settled gathered
returns-clause-gathered g c =
    let before = c.reads.invariant.taking in
    let moved = c.reads-test.ensures in
    record {
      gathered = gathered_settled _ _ _ _ _ _ _ _ _ _ before.gathering moved.moves;
      puts = puts_more _ _ before.gathering.piece _ moved.moves.piece _ _ _ before.puts moved.puts;
    }
