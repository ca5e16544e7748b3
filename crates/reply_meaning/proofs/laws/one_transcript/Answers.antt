use Rattle.reply_meaning.proofs.Lines.{lines_reply}
use Rattle.reply_meaning.proofs.laws.one_transcript.Goals as goal

pub returns : goal.returns
returns c = lines_reply
