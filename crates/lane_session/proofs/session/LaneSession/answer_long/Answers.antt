use Rattle.lane_session.proofs.Sent.{answers_sent}
use Rattle.lane_session.proofs.session.LaneSession.answer_long.Goals as goal

pub returns-clause-answers : goal.returns-clause-answers
returns-clause-answers g c = answers_sent _ _ _ _ _ _ _ _ _ c.stop_of.ensures (λ is. is) c.take_up.ensures c.value.ensures.last c.send_long.ensures.sends
