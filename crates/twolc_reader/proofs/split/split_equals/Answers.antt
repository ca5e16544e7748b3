use Rattle.std.proofs.Common.{sym, ◌∙◌}
use Rattle.twolc_tokens.specs.declared.token.Operator.TheVariants.{Equals}
use Rattle.twolc_tokens.specs.declared.token.Token.TheVariants.{Operator as operator}
use Rattle.twolc_reader.proofs.Fronts.{none_first, other_first, first_is, equals_is, no_equals}
use Rattle.twolc_reader.proofs.split.split_equals.Goals as goal

pub returns-in_default : goal.returns-in_default
returns-in_default c = λ rest. none_first c.args.tokens.now (operator Equals) rest c.in_default.ensures.cases

pub returns-then-not-is_equals : goal.returns-then-not-is_equals
returns-then-not-is_equals c = λ rest.
    other_first c.args.tokens.now c.in-Some.first.now c.in-Some.rest.now (operator Equals) rest c.in-Some.ensures.cases.0 (no_equals c.in-Some.first.now.token (sym c.is_equals.ensures ∙ c.if-not-is_equals.true))

pub returns : goal.returns
returns c = first_is c.args.tokens.now c.in-Some.first.now c.in-Some.rest.now (operator Equals) c.in-Some.ensures.cases.0 (equals_is c.in-Some.first.now.token (sym c.is_equals.ensures ∙ c.if-not-is_equals.false))
