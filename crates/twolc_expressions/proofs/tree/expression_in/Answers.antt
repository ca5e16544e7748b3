use Rattle.twolc_grammar.specs.Sections.{tokens_of}
use Rattle.twolc_expressions.proofs.Whole.{unread, read_ok}
use Rattle.twolc_expressions.proofs.tree.expression_in.Goals as goal

pub returns-in_default-2 : goal.returns-in_default-2
returns-in_default-2 c = unread c.args.names.now (tokens_of c.args.tokens.now) c.in_ok-tokens.field-0 c.in-Some.tokens c.deref.result.now c.in_ok-expr.field-0 c.in_ok-tokens.ensures c.in-Some.is c.deref.ensures.value c.in_ok-expr.ensures c.in_default-2.is

pub returns : goal.returns
returns c = read_ok c.args.names.now (tokens_of c.args.tokens.now) c.in_ok-tokens.field-0 c.in-Some.tokens c.deref.result.now c.in_ok-expr.field-0 c.in-Some-2.expr c.over_pairs.result c.in_ok-tokens.ensures c.in-Some.is c.deref.ensures.value c.in_ok-expr.ensures c.in-Some-2.is c.over_pairs.ensures
