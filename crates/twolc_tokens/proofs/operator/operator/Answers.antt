use Rattle.std.proofs.Common.{length, ap, ◌∙◌}
use Rattle.twolc_tokens.specs.Reading.{first_of, longest_first}
use Rattle.twolc_tokens.proofs.Operators.{operator_read, operator_none}
use Rattle.twolc_tokens.proofs.operator.operator.Goals as goal

pub returns : goal.returns
returns c =
    operator_read c.args.text.now c.in-Some.operator (length c.spelling.result.now) c.utf8.text c.requires.no_atom c.requires.no_quotes (c.in-Some.ensures ∙ ap (first_of longest_first) c.as_bytes.ensures.value) (ap length c.spelling.ensures)

pub returns-in_default : goal.returns-in_default
returns-in_default c = operator_none c.args.text.now c.requires.no_atom c.requires.no_quotes (c.in_default.ensures ∙ ap (first_of longest_first) c.as_bytes.ensures.value)
