use Rattle.std.proofs.Common.{ℕ, List, sym, ap, subst, ◌∙◌}
use Rattle.fsm_io.specs.Gather.{event_of}
use Rattle.fsm_io.specs.Taking.{Puts}
use Rattle.fsm_io.proofs.Gathering.{advance_event, ended_again}
use Rattle.fsm_io.proofs.Taking.{puts_nothing}
use Rattle.fsm_io.proofs.lines.Lines.advance_into.Goals as goal

pub returns-then-self-clause-next : goal.returns-then-self-clause-next
returns-then-self-clause-next g c =
    let none = c.self.invariant.2 c.if-self.true in
    let again = ended_again (g.S.Source.left c.args.source.now) _ _ _ _ _ _ c.self.view_is c.if-self.true none.0 none.1 in
    record {
      next = again.0;
      puts = subst (λ (piece : List ℕ). Puts c.args.keep c.args.into.now.items piece c.args.into.now.items c.args.lacks.now) (sym again.1) (puts_nothing _ _ _);
    }

pub returns-clause-next : goal.returns-clause-next
returns-clause-next g c =
    let all = c.gather_into-step.ensures.gathered in
    let event = advance_event _ _ _ _ _ _ _ _ _ c.gather_into-step.result c.self.inside.told c.self.inside.ended _ _ _ _ c.self.view_is c.if-self.false c.begin.ensures c.self.invariant.0 all.gathered
    c.is_told-self-inside.ensures c.is_ended-self-inside.ensures (c.event_after.ensures ∙ ap (event_of c.gather_into-step.result) c.as_slice.ensures.bytes) in
    record {
      next = event.0;
      puts = subst (λ (piece : List ℕ). Puts c.args.keep c.args.into.now.items piece c.gather_into-step.new.into.items c.gather_into-step.new.lacks) (sym event.1) all.puts;
    }
