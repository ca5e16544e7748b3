use Rattle.twolc_tokens.specs.declared.token.Operator.TheVariants.{Arrow}
use Rattle.twolc_tokens.specs.declared.token.Token.TheVariants.{Operator as operator}
use Rattle.twolc_reader.proofs.RuleFronts.{none_first}
use Rattle.twolc_reader.proofs.head.split_arrow.Goals as goal

pub returns-in_default : goal.returns-in_default
returns-in_default c = λ kind rest. none_first c.args.tokens.now (operator (Arrow kind)) rest c.in_default.ensures.cases
