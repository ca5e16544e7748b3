use Rattle.std.proofs.Common.{ap, ◌∙◌}
use Rattle.fsm_io.specs.Gather.{event_of}
use Rattle.fsm_io.proofs.Gathering.{advance_event, ended_again}
use Rattle.fsm_io.proofs.lines.Lines.advance.Goals as goal

pub returns-then-self-clause-next : goal.returns-then-self-clause-next
returns-then-self-clause-next g c =
    let none = c.self.invariant.2 c.if-self.true in
    (ended_again _ _ _ _ _ _ _ c.self.view_is c.if-self.true none.0 none.1).0

pub returns-clause-next : goal.returns-clause-next
returns-clause-next g c =
    (advance_event _ _ _ _ _ _ _ _ _ c.gather-step.result c.self.inside.told c.self.inside.ended _ _ _ _ c.self.view_is c.if-self.false c.begin.ensures c.self.invariant.0 c.gather-step.ensures.gathered
    c.is_told-self-inside.ensures c.is_ended-self-inside.ensures (c.event_after.ensures ∙ ap (event_of c.gather-step.result) c.as_slice.ensures.bytes)).0
