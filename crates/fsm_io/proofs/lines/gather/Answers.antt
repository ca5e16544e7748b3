use Rattle.std.proofs.Common.{arith, refl}
use Rattle.fsm_io.proofs.Gathering.{gathering_start, gathering_more, gathered_settled, gathered_over, gathered_failed, gathered_ended, length-nil}
use Rattle.fsm_io.proofs.lines.gather.Goals as goal

pub reads-init : goal.reads-init
reads-init g c = record {
  gathering = gathering_start _ _ _ _ c.requires.room;
  ready = λ found. (found, refl);
  spent = λ none. (none, refl);
  few = c.requires.few;
  later = omega arith;
}

pub returns-then-budget-eq0-clause-gathered : goal.returns-then-budget-eq0-clause-gathered
returns-then-budget-eq0-clause-gathered g c = gathered_over _ _ _ _ _ _ _ _ _ _ c.reads.invariant.gathering c.reads-test.ensures.moves c.if-budget-eq0.true

pub returns-in-Err-clause-gathered : goal.returns-in-Err-clause-gathered
returns-in-Err-clause-gathered g c =
    gathered_failed _ _ _ _ _ _ _ _ _ _ _ _ c.reads.invariant.gathering c.reads-test.ensures.moves c.in-Err.ensures.bytes.consumed c.in-Err.ensures.bytes.nothing (omega arith)

pub returns-in-Ok-eq0-clause-gathered : goal.returns-in-Ok-eq0-clause-gathered
returns-in-Ok-eq0-clause-gathered g c =
    let bytes = c.in-Ok-eq0.ensures.bytes in
    gathered_ended _ _ _ _ _ _ _ _ _ _ _ _ c.reads.invariant.gathering c.reads-test.ensures.moves bytes.consumed (length-nil _ (omega (arith, bytes.count.0, c.in-Ok-eq0.field-0-test))) (omega arith) (bytes.count.2 c.in-Ok-eq0.field-0-test)

pub reads-preserved : goal.reads-preserved
reads-preserved g c = record {
  gathering = gathering_more _ _ _ _ _ _ _ _ _ _ _ _ _ c.reads.invariant.gathering c.reads-test.ensures.moves c.in-Ok.ensures.bytes.consumed (omega (arith, c.in-Ok.ensures.bytes.count.0, c.in-Ok.ensures.bytes.count.1));
  ready = λ found. let none = c.reads-test.ensures.newline.1 (c.reads.invariant.ready found).0 in cc;
  spent = λ none. absurd (c.if-budget-eq0.false (c.reads.invariant.spent none).0);
  few = c.in-Ok.ensures.few;
  later = omega (arith, c.reads.invariant.later, c.refill.ensures.cause.later);
}

pub returns-clause-gathered : goal.returns-clause-gathered
returns-clause-gathered g c = gathered_settled _ _ _ _ _ _ _ _ _ _ c.reads.invariant.gathering c.reads-test.ensures.moves
