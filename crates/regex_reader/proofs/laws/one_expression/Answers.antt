use Rattle.regex_reader.proofs.Once.{one_expression}
use Rattle.regex_reader.proofs.laws.one_expression.Goals as goal

pub returns : goal.returns
returns c = one_expression
