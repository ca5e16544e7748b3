use Rattle.std.proofs.Common.{true≢false, sym, ◌∙◌, arith}
use Rattle.edit_script.proofs.Numbers.{begins_rightly, not_read, too_great, number_read}
use Rattle.edit_script.proofs.words.number.Goals as goal

pub returns-then-begins_wrongly : goal.returns-then-begins_wrongly
returns-then-begins_wrongly c = begins_rightly c.args.word.now (rw c.as_bytes.ensures.value at (c.begins_wrongly.ensures.0 c.if-begins_wrongly.true))

pub returns-in_err-number : goal.returns-in_err-number
returns-in_err-number c = rw c.from_residual.ensures (not_read c.args.word.now c.parse.result (sym c.ok.ensures.value ∙ c.in_err-number.was) c.parse.ensures.value.0)

pub returns-then-number-le-MOST_NUMBER : goal.returns-then-number-le-MOST_NUMBER
returns-then-number-le-MOST_NUMBER c =
    number_read c.args.word.now c.parse.result c.in_ok-number.number (sym c.ok.ensures.value ∙ c.in_ok-number.was) c.parse.ensures.value.0
    (λ wrongly. true≢false (sym (c.begins_wrongly.ensures.1 (rw c.as_bytes.ensures.value wrongly)) ∙ c.if-begins_wrongly.false)) c.if-number-le-MOST_NUMBER.true

pub returns-else-number-le-MOST_NUMBER : goal.returns-else-number-le-MOST_NUMBER
returns-else-number-le-MOST_NUMBER c = too_great c.args.word.now c.parse.result c.in_ok-number.number (sym c.ok.ensures.value ∙ c.in_ok-number.was) c.parse.ensures.value.0 (omega (arith, c.if-number-le-MOST_NUMBER.false))
