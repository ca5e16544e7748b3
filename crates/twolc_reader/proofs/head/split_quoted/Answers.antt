use Rattle.twolc_tokens.specs.declared.token.Token.TheVariants.{Quoted as quoted}
use Rattle.twolc_reader.proofs.RuleFronts.{none_first, other_first, first_is}
use Rattle.twolc_reader.proofs.head.split_quoted.Goals as goal

pub returns-in_default : goal.returns-in_default
returns-in_default c = λ text rest. none_first c.args.tokens.now (quoted text) rest c.in_default.ensures.cases

pub returns-in-Quoted : goal.returns-in-Quoted
returns-in-Quoted c = first_is c.args.tokens.now c.in-Some.first.now c.in-Some.rest.now (quoted c.in-Quoted.name) c.in-Some.ensures.cases.0 c.in-Quoted.is

pub returns-in_default-token : goal.returns-in_default-token
returns-in_default-token c = λ text rest. other_first c.args.tokens.now c.in-Some.first.now c.in-Some.rest.now (quoted text) rest c.in-Some.ensures.cases.0 (c.in_default-token.not-Quoted text)
