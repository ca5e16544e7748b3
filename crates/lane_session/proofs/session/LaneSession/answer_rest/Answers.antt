use Rattle.std.proofs.Common.{arith, refl, ◌∙◌}
use Rattle.lane_session.proofs.session.LaneSession.answer_rest.Goals as goal

pub lines-init : goal.lines-init
lines-init g c = record { rest = λ budget left0 held0 s. s; seat = refl; later_input = omega arith; later_output = omega arith }

pub lines-preserved : goal.lines-preserved
lines-preserved g c = record {
  rest = λ budget left0 held0 s. (rw c.lines.invariant.seat at c.in_default.ensures.turns) budget left0 held0 (c.lines.invariant.rest budget left0 held0 s);
  seat = c.in_default.ensures.seat ∙ c.lines.invariant.seat;
  later_input = omega (arith, c.lines.invariant.later_input, c.in_default.ensures.later_input);
  later_output = omega (arith, c.lines.invariant.later_output, c.in_default.ensures.later_output);
}

pub returns-in-Some-clause-answered : goal.returns-in-Some-clause-answered
returns-in-Some-clause-answered g c budget left0 held0 s = (rw c.lines.invariant.seat at c.in-Some.ensures.turns) budget left0 held0 (c.lines.invariant.rest budget left0 held0 s)
