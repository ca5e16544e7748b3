use Rattle.reply_meaning.proofs.Replies.{replies}
use Rattle.reply_meaning.proofs.laws.one_reply.Goals as goal

pub returns : goal.returns
returns c = replies
