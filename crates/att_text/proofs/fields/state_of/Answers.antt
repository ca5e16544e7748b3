use Rattle.std.proofs.Common.{Ok, Err, sym, ap, ◌∙◌}
use Rattle.att_text.specs.Lines.{is_decimal}
use Rattle.att_text.proofs.Numbers.{no_state, parsed}
use Rattle.att_text.proofs.fields.state_of.Goals as goal

pub returns-then-not-is_decimal : goal.returns-then-not-is_decimal
returns-then-not-is_decimal c = sym (no_state c.args.field.now (ap is_decimal (sym c.as_bytes.ensures.value) ∙ sym c.is_decimal.ensures ∙ c.if-not-is_decimal.true))

pub returns-in-Ok : goal.returns-in-Ok
returns-in-Ok c = parsed c.args.field.now {E = Unit {0}} (Ok c.in-Ok.state) c.in-Ok.ensures.value.0 (ap is_decimal (sym c.as_bytes.ensures.value) ∙ sym c.is_decimal.ensures ∙ c.if-not-is_decimal.false)

pub returns-in-Err : goal.returns-in-Err
returns-in-Err c = parsed c.args.field.now (Err c.in-Err.field-0) c.in-Err.ensures.value.0 (ap is_decimal (sym c.as_bytes.ensures.value) ∙ sym c.is_decimal.ensures ∙ c.if-not-is_decimal.false)
