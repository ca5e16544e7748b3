use Rattle.std.proofs.Common.{inl, subst, ◌∙◌, ℕ, List}
use Rattle.fsm_program.specs.Outside.{IsSaid}
use Rattle.fsm_program.proofs.saying.say_names.Goals as goal

pub returns-in-Ok-clause-said : goal.returns-in-Ok-clause-said
returns-in-Ok-clause-said g c said from =
    let (names, are, line) = c.in-Ok.ensures said from in
    inl (names, are, subst (λ (text : List ℕ). IsSaid (g.O.Sink.held c.args.output.now) (g.O.Sink.held c.said.new.output) text 0 c.said.result) (c.deref.ensures.value ∙ line) c.said.ensures.said)
