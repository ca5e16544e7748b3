use Rattle.std.proofs.Common.{arith, refl, ◌∙◌}
use Rattle.editor_session.proofs.session.EditorSession.answer_all.Goals as goal

pub commands-init : goal.commands-init
commands-init g c = record {
  number = c.requires.number;
  board = refl;
  sofar = λ loaded present made budget left0 held0 stands published s. (present, made, stands, published, s);
  later_input = omega arith;
  later_output = omega arith;
}

pub commands-preserved : goal.commands-preserved
commands-preserved g c = record {
  number = c.in_default.ensures.number;
  board = c.in_default.ensures.board ∙ c.commands.invariant.board;
  sofar = λ loaded present made budget left0 held0 stands published s.
      let (now, all, stand, shown, sofar) = c.commands.invariant.sofar loaded present made budget left0 held0 stands published s in
      c.in_default.ensures.turns loaded now all budget left0 held0 stand shown sofar;
  later_input = omega (arith, c.commands.invariant.later_input, c.in_default.ensures.later_input);
  later_output = omega (arith, c.commands.invariant.later_output, c.in_default.ensures.later_output);
}

pub returns-in-Some-clause-edited : goal.returns-in-Some-clause-edited
returns-in-Some-clause-edited g c loaded present made budget left0 held0 stands published s =
    let (now, all, stand, shown, sofar) = c.commands.invariant.sofar loaded present made budget left0 held0 stands published s in
    c.in-Some.ensures.turns loaded now all budget left0 held0 stand shown sofar
