use Rattle.regex_grammar.proofs.Whole.{one_reading}
use Rattle.regex_grammar.proofs.laws.one_reading.Goals as goal

pub returns : goal.returns
returns c tokens o p r q = one_reading tokens o p r q
