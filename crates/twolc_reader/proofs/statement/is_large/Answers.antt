use Rattle.twolc_reader.proofs.Verdicts.{large_is}
use Rattle.twolc_reader.proofs.statement.is_large.Goals as goal

pub returns-in-Rule : goal.returns-in-Rule
returns-in-Rule c = large_is c.args.statement.now c.in-Rule.rule c.len.result c.in-Rule.is c.len.ensures
