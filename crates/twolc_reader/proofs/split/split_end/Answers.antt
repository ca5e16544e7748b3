use Rattle.std.proofs.Common.{sym, ◌∙◌}
use Rattle.twolc_tokens.specs.declared.token.Operator.TheVariants.{Semicolon}
use Rattle.twolc_tokens.specs.declared.token.Token.TheVariants.{Operator as operator}
use Rattle.twolc_reader.proofs.Fronts.{none_last, other_last, last_is, semicolon_is, no_semicolon}
use Rattle.twolc_reader.proofs.split.split_end.Goals as goal

pub returns-in_default : goal.returns-in_default
returns-in_default c = λ front. none_last c.args.tokens.now front (operator Semicolon) c.in_default.ensures.cases

pub returns-then-not-is_semicolon : goal.returns-then-not-is_semicolon
returns-then-not-is_semicolon c = λ other.
    other_last c.args.tokens.now c.in-Some.front.now c.in-Some.last.now other (operator Semicolon) c.in-Some.ensures.cases.0 (no_semicolon c.in-Some.last.now.token (sym c.is_semicolon.ensures ∙ c.if-not-is_semicolon.true))

pub returns : goal.returns
returns c = last_is c.args.tokens.now c.in-Some.front.now c.in-Some.last.now (operator Semicolon) c.in-Some.ensures.cases.0 (semicolon_is c.in-Some.last.now.token (sym c.is_semicolon.ensures ∙ c.if-not-is_semicolon.false))
