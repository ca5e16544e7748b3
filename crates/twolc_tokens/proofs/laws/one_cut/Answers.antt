use Rattle.twolc_tokens.proofs.Texts.{cuts_once}
use Rattle.twolc_tokens.proofs.laws.one_cut.Goals as goal

pub returns : goal.returns
returns c = λ line text tokens others ending other h g. cuts_once line text tokens others ending other h g
