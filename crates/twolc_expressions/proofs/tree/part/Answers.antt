use Rattle.twolc_expressions.proofs.Whole.{part_ok}
use Rattle.twolc_expressions.proofs.tree.part.Goals as goal

pub returns : goal.returns
returns c = part_ok c.args.names.now c.args.tokens.now c.expression.result c.if-is_empty.ensures c.expression.ensures
