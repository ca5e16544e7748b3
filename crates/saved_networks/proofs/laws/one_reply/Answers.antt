use Rattle.saved_networks.proofs.Replied.{replies}
use Rattle.saved_networks.proofs.laws.one_reply.Goals as goal

pub returns : goal.returns
returns c = replies
