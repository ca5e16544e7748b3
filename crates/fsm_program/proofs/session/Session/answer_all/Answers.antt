use Rattle.std.proofs.Common.{arith, ap, refl, sym, subst, Some, ◌∙◌}
use Rattle.fsm_program.specs.Running.{Sofar, Turns, most_taken}
use Rattle.fsm_program.specs.declared.look_up.LookUp.{LookUp}
use Rattle.fsm_program.specs.Steps.{steps}
use Rattle.fsm_program.proofs.Runs.{sofar_start, finished}
use Rattle.fsm_program.proofs.session.Session.answer_all.Goals as goal

pub lines-init : goal.lines-init
lines-init g c = record {
  same = refl;
  sofar = sofar_start (steps c.args.self.look_up) tt most_taken _ _ _ _ c.requires.start c.requires.empty;
  later_input = omega arith;
  later_output = omega arith;
}

pub lines-preserved : goal.lines-preserved
lines-preserved g c = record {
  same = c.in_default.ensures.same ∙ c.lines.invariant.same;
  sofar = (rw c.lines.invariant.same at c.in_default.ensures.turns) most_taken _ _ c.lines.invariant.sofar;
  later_input = omega (arith, c.lines.invariant.later_input, c.in_default.ensures.later_input);
  later_output = omega (arith, c.lines.invariant.later_output, c.in_default.ensures.later_output);
}

pub returns-in-Some-clause-answered : goal.returns-in-Some-clause-answered
returns-in-Some-clause-answered g c =
    let same = c.lines.invariant.same in
    let turned = c.in-Some.ensures.turns most_taken _ _
    (subst (λ (l : LookUp). Sofar (steps l) tt most_taken (g.I.Source.left c.args.input.now) (g.I.Source.left c.lines.input) (g.O.Sink.held c.args.output.now) (g.O.Sink.held c.lines.output) c.lines.self.lines c.lines.self.outbox) (sym same) c.lines.invariant.sofar) in
    finished (steps c.args.self.look_up) tt most_taken _ _ _ _ _ _ _ _ _ _
    (λ is. let same = c.finish.ensures.failed is in (same.0, ap (λ o. g.O.Sink.held o) same.1)) c.finish.ensures.written c.finish.ensures.bytes
    (subst (λ (l : LookUp). Turns (steps l) tt most_taken (g.I.Source.left c.args.input.now) (g.I.Source.left c.turns_ahead.new.input) (g.O.Sink.held c.args.output.now) (g.O.Sink.held c.turns_ahead.new.output) c.turns_ahead.new.self.lines c.turns_ahead.new.self.outbox (Some c.in-Some.ending)) same turned)
