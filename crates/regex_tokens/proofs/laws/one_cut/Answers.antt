use Rattle.regex_tokens.proofs.Texts.{cuts_once}
use Rattle.regex_tokens.proofs.laws.one_cut.Goals as goal

pub returns : goal.returns
returns c = λ marks line text tokens others places them ending other h g. cuts_once marks tokens line text places ending others them other h g
