use Rattle.std.proofs.Common.{ℕ, ap, inl, subst, ◌∙◌}
use Rattle.editor_session.specs.Live.{IsLive}
use Rattle.fsm_program.specs.Ends.{status_of}
use Rattle.fsm_program.proofs.Endings.{most_taken_is}
use Rattle.fsm_program.proofs.program.served.Goals as goal

pub returns-in-Ok-clause-served : goal.returns-in-Ok-clause-served
returns-in-Ok-clause-served g c loaded stands =
    let (ending, endings, told, live, causes) = c.in-Ok.ensures.live loaded stands in
    inl (
      ending,
      endings,
      c.status.ensures ∙ ap status_of told,
      subst (λ (n : ℕ). IsLive loaded n (g.I.Source.left c.args.input.now) (g.I.Source.left c.serve.new.input) (g.O.Sink.held c.args.output.now) (g.O.Sink.held c.serve.new.output) ending c.args.lanes.now c.serve.new.lanes endings) most_taken_is live,
      causes,
    )
