use Rattle.std.proofs.Common.{◌≡◌, true, ◌∙◌, rules}
use Rattle.regex_grammar.specs.Grammar.{is_number}
use Rattle.regex_parser.proofs.Numbers.{parsed_power, failed_power}
use Rattle.regex_parser.proofs.front.times.Goals as goal

pub returns-in-Ok : goal.returns-in-Ok
returns-in-Ok c = let is : is_number c.args.digits.now ≡ true = search rules in c.from.ensures ∙ parsed_power c.args.digits.now c.in-Ok.number is c.in-Ok.ensures.value.0

pub returns-in-Err : goal.returns-in-Err
returns-in-Err c = let is : is_number c.args.digits.now ≡ true = search rules in failed_power c.args.digits.now is c.in-Err.ensures.value.0
