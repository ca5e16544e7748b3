use Rattle.std.proofs.Common.{sym, ◌∙◌}
use Rattle.twolc_reader.proofs.Loops.{answered, lines_there, none_left}
use Rattle.twolc_reader.proofs.reader.grammar_of.Goals as goal

pub returns-clause-says : goal.returns-clause-says
returns-clause-says c =
    answered c.args.tokens.now c.statements.rest.now c.args.ending c.statements.stage c.statements.grammar c.statements.names (none_left c.statements.rest.now (sym c.statements-test.false ∙ c.is_empty.ensures)) c.statements.invariant
    c.whole.result c.whole.ensures.says

pub returns-clause-lines : goal.returns-clause-lines
returns-clause-lines c =
    lines_there c.args.tokens.now c.statements.rest.now c.args.ending c.statements.stage c.statements.grammar c.statements.names (none_left c.statements.rest.now (sym c.statements-test.false ∙ c.is_empty.ensures)) c.statements.invariant
    c.whole.result c.whole.ensures.same
