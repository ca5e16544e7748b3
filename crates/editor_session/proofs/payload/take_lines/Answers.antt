use Rattle.std.proofs.Common.{arith, true, []}
use Rattle.editor_session.proofs.Hearing.{more_taken, stopped_taking, taken_kept, taken_unkept}
use Rattle.editor_session.proofs.payload.take_lines.Goals as goal

pub returns-in-Some-clause-taken : goal.returns-in-Some-clause-taken
returns-in-Some-clause-taken g c left0 budget heard h =
    let t = c.lines.invariant.taking left0 budget heard h in
    stopped_taking left0 _ _ budget _ _ heard _ _ _ [] _ true t _ (omega arith) c.in-Some.stop (c.in-Some.ensures.taken left0 budget _ t.all_heard)

pub lines-preserved : goal.lines-preserved
lines-preserved g c = record {
  taking = λ left0 budget heard h.
      let t = c.lines.invariant.taking left0 budget heard h in
      more_taken left0 _ _ budget _ _ heard _ _ _ _ _ _ t (c.in_default.ensures.taken left0 budget _ t.all_heard);
  smaller = omega (arith, c.lines.invariant.smaller, c.in_default.ensures.later);
  later = omega (arith, c.lines.invariant.later, c.in_default.ensures.later_input);
}

pub returns-then-lacks-clause-taken : goal.returns-then-lacks-clause-taken
returns-then-lacks-clause-taken g c left0 budget heard h = taken_unkept left0 _ budget _ heard _ _ _ (omega arith) _ _ (c.lines.invariant.taking left0 budget heard h) c.if-lacks.true

pub returns-else-lacks-clause-taken : goal.returns-else-lacks-clause-taken
returns-else-lacks-clause-taken g c left0 budget heard h = taken_kept left0 _ budget _ heard _ _ _ (omega arith) _ _ (c.lines.invariant.taking left0 budget heard h) c.if-lacks.false
