use Rattle.project_versions.proofs.OneReply.{one_reply}
use Rattle.project_versions.proofs.laws.one_reply_to_look.Goals as goal

pub returns : goal.returns
returns c = one_reply
