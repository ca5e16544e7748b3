use Rattle.std.proofs.Common.{arith, refl, ◌∙◌}
use Rattle.lane_session.proofs.session.LaneSession.answer_beside.Goals as goal

pub lines-init : goal.lines-init
lines-init g c = record { beside = λ budget left0 held0 s. s; board = refl; later_input = omega arith; later_output = omega arith }

pub lines-preserved : goal.lines-preserved
lines-preserved g c = record {
  beside = λ budget left0 held0 s. c.in_default.ensures.turns budget left0 held0 (c.lines.invariant.beside budget left0 held0 s);
  board = c.in_default.ensures.board ∙ c.lines.invariant.board;
  later_input = omega (arith, c.lines.invariant.later_input, c.in_default.ensures.later_input);
  later_output = omega (arith, c.lines.invariant.later_output, c.in_default.ensures.later_output);
}

pub returns-in-Some-clause-stopped : goal.returns-in-Some-clause-stopped
returns-in-Some-clause-stopped g c budget left0 held0 s = c.in-Some.ensures.turns budget left0 held0 (c.lines.invariant.beside budget left0 held0 s)
