use Rattle.twolc_reader.proofs.Splits.{rule_ended, rule_last}
use Rattle.twolc_reader.proofs.one.end_of_rule.Goals as goal

pub returns-in-Some-place_of_quoted : goal.returns-in-Some-place_of_quoted
returns-in-Some-place_of_quoted c = rule_ended c.args.tokens.now c.in-Some.field-0-0.now c.in-Some.more.now c.in-Some.ensures.cases.0 c.in-Some-place_of_quoted.place c.in-Some-place_of_quoted.ensures.first

pub returns-in-None : goal.returns-in-None
returns-in-None c = rule_last c.args.tokens.now c.in-Some.field-0-0.now c.in-Some.more.now c.in-Some.ensures.cases.0 c.in-None.ensures.first
