use Rattle.std.proofs.Common.{◌<◌, ◌∙◌, ap, length, subst, sym}
use Rattle.publish_board.proofs.Events.{is_learn}
use Rattle.publish_board.proofs.seat.Seat.learn.Goals as goal

pub returns-clause-event : goal.returns-clause-event
returns-clause-event g c =
    let before = ap (λ s. s.values) c.self.view_is in
    let now = ap (λ p. p.values) (c.note.invariant ∙ sym c.again.ensures) in
    is_learn _ _ (subst (λ xs. 0 < length xs) before c.self.invariant.1) (rw (ap (λ p. p.values) c.upto.ensures.values ∙ before, now) at c.begins_with.ensures)
