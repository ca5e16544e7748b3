use Rattle.std.proofs.Common.{ℕ, ap, codes}
use Rattle.reply_meaning.specs.Replies.{headed}
use Rattle.lane_session.proofs.Sent.{sends_as}
use Rattle.lane_session.proofs.sending.send_long.Goals as goal

pub returns-clause-sends : goal.returns-clause-sends
returns-clause-sends g c = sends_as _ _ (g.met.V.Answers.long_is_reply c.args.value.now) (ap (λ (n : ℕ). headed n (codes "long")) c.number.ensures) c.send_short.ensures.bytes
