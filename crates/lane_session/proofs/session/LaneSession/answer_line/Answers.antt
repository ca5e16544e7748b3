use Rattle.std.proofs.Common.{List, ℕ, Some, refl, subst, sym}
use Rattle.lane_meaning.specs.Lanes.{IsMark}
use Rattle.lane_session.proofs.Sent.{answers_sent}
use Rattle.lane_session.proofs.session.LaneSession.answer_line.Goals as goal

pub returns-then-is_mark-clause-answers : goal.returns-then-is_mark-clause-answers
returns-then-is_mark-clause-answers g c = (subst (λ (l : List ℕ). IsMark (Some l)) c.text-line.ensures (c.is_mark.ensures.0 c.if-is_mark.true), refl, refl)

pub returns-clause-answers : goal.returns-clause-answers
returns-clause-answers g c =
    let sends = rw c.text-line.ensures at c.send_reply.ensures.sends in
    answers_sent _ _ _ (Some c.args.self.now.lines.text) _ _ _ _ _ c.stop_of.ensures (λ is. let t = c.is_mark.ensures.1 (subst (λ (l : List ℕ). IsMark (Some l)) (sym c.text-line.ensures) is) in let f = c.if-is_mark.false in absurd (cc (t, f))) c.take_up.ensures c.value.ensures.last sends
