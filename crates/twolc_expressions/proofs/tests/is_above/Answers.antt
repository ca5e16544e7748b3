use Rattle.std.proofs.Common.{◌≡◌, true, rules}
use Rattle.regex_grammar.specs.Grammar.{is_number}
use Rattle.twolc_expressions.proofs.Numbers.{parsed_low, failed_high}
use Rattle.twolc_expressions.proofs.tests.is_above.Goals as goal

pub returns-in-Ok : goal.returns-in-Ok
returns-in-Ok c = let is : is_number c.args.digits.now ≡ true = search rules in parsed_low c.args.digits.now _ is c.in-Ok.ensures.value.0

pub returns-in-Err : goal.returns-in-Err
returns-in-Err c = let is : is_number c.args.digits.now ≡ true = search rules in failed_high c.args.digits.now is c.in-Err.ensures.value.0
