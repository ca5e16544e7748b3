use Rattle.std.proofs.Common.{length, sym, ap, subst, ◌∙◌}
use Rattle.regex_tokens.specs.Reading.{IsRead, spaced_at, first_of, longest_first}
use Rattle.regex_tokens.proofs.Operators.{spaced_read, operator_read, operator_none}
use Rattle.regex_tokens.proofs.operator.operator.Goals as goal

pub returns-in-Some : goal.returns-in-Some
returns-in-Some c = spaced_read c.args.text.now c.in-Some.len c.utf8.text c.requires (c.in-Some.ensures ∙ ap spaced_at c.as_bytes.ensures.value)

pub returns : goal.returns
returns c =
    operator_read c.args.text.now c.in_ok-operator.operator (length c.spelling.result.now) c.utf8.text c.requires (c.in_default.ensures ∙ ap spaced_at c.as_bytes.ensures.value)
    (c.in_ok-operator.ensures ∙ ap (first_of longest_first) c.as_bytes-2.ensures.value) (ap length c.spelling.ensures)

pub returns-in_err-operator : goal.returns-in_err-operator
returns-in_err-operator c =
    subst (IsRead c.args.text.now) (sym c.from_residual.ensures)
    (operator_none c.args.text.now c.requires (c.in_default.ensures ∙ ap spaced_at c.as_bytes.ensures.value) (sym c.in_err-operator.was ∙ c.operator_at.ensures ∙ ap (first_of longest_first) c.as_bytes-2.ensures.value))
