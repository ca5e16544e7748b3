use Rattle.std.proofs.Common.{ℕ, ap}
use Rattle.reply_meaning.specs.Replies.{headed}
use Rattle.reply_text.specs.Heads.{head_word}
use Rattle.lane_session.proofs.Sent.{sends_as}
use Rattle.lane_session.proofs.sending.send_reply.Goals as goal

pub returns-in-Bytes-clause-sends : goal.returns-in-Bytes-clause-sends
returns-in-Bytes-clause-sends g c = sends_as _ _ (rw c.in-Bytes.is at c.answer.ensures) c.deref.ensures.value c.write_all.ensures.bytes

pub returns-in-Short-clause-sends : goal.returns-in-Short-clause-sends
returns-in-Short-clause-sends g c = sends_as _ _ (rw c.in-Short.is at c.answer.ensures) (ap (λ (n : ℕ). headed n (head_word c.in-Short.head)) c.number.ensures) c.send_short.ensures.bytes
