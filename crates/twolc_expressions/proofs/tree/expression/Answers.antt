use Rattle.twolc_grammar.specs.Sections.{tokens_of}
use Rattle.twolc_expressions.proofs.Whole.{found_ok}
use Rattle.twolc_expressions.proofs.tree.expression.Goals as goal

pub returns : goal.returns
returns c = found_ok c.args.names.now (tokens_of c.args.tokens.now) c.expression_in.result c.expression_in.ensures
