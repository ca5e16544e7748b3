use Rattle.std.proofs.Common.{refl, sym}
use Rattle.twolc_grammar.specs.Sections.{tokens_of}
use Rattle.twolc_grammar.specs.Statements.{deep}
use Rattle.twolc_reader.specs.Reading.{section_view}
use Rattle.twolc_reader.proofs.Verdicts.{strange, found_is, line_is}
use Rattle.twolc_reader.proofs.statement.verdict.Goals as goal

pub returns-then-is_too_deep-clause-says : goal.returns-then-is_too_deep-clause-says
returns-then-is_too_deep-clause-says c = (refl, deep (sym c.if-is_too_deep.ensures))

pub returns-in_default-clause-says : goal.returns-in_default-clause-says
returns-in_default-clause-says c =
    (refl, strange c.args.names.now (section_view c.args.section) c.args.line (tokens_of c.args.tokens.now) c.in_ok-found.field-0 c.if-is_too_deep.ensures c.in_default.is c.in_ok-found.ensures.says)

pub returns-clause-says : goal.returns-clause-says
returns-clause-says c =
    found_is c.args.names.now (section_view c.args.section) c.args.line (tokens_of c.args.tokens.now) c.in_ok-found.field-0 c.in-Some.found c.refusal-why.result c.unless_refused.result c.if-is_too_deep.ensures c.in-Some.is c.in_ok-found.ensures.says c.refusal-why.ensures c.unless_refused.ensures

pub returns-clause-at : goal.returns-clause-at
returns-clause-at c = line_is c.args.line c.in-Some.found c.refusal-why.result c.unless_refused.result (rw c.in-Some.is at c.in_ok-found.ensures.at) c.unless_refused.ensures
