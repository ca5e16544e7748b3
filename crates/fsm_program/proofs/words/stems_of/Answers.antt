use Rattle.std.proofs.Common.{true≢false, sym, ◌∙◌, arith, inl, inr}
use Rattle.fsm_program.proofs.Stems.{most_is, no_stems_beyond, no_stems_first, no_stems_read, stems_read}
use Rattle.fsm_program.proofs.words.stems_of.Goals as goal

pub returns-then-begins_wrongly : goal.returns-then-begins_wrongly
returns-then-begins_wrongly c = sym (no_stems_first c.args.word.now (rw c.as_bytes.ensures.value at (c.begins_wrongly.ensures.0 c.if-begins_wrongly.true)))

pub returns-in_err-stems : goal.returns-in_err-stems
returns-in_err-stems c = c.from_residual.ensures ∙ sym (no_stems_read c.args.word.now c.parse.result c.parse.ensures.value.0 (sym c.ok.ensures.value ∙ c.in_err-stems.was))

pub returns-then-stems-le-MOST_STEMS : goal.returns-then-stems-le-MOST_STEMS
returns-then-stems-le-MOST_STEMS c =
    sym (stems_read c.args.word.now c.parse.result c.parse.ensures.value.0 c.in_ok-stems.stems (sym c.ok.ensures.value ∙ c.in_ok-stems.was)
    (λ wrongly. true≢false (sym (c.begins_wrongly.ensures.1 (rw c.as_bytes.ensures.value wrongly)) ∙ c.if-begins_wrongly.false)) (c.if-stems-ge1.true, omega (arith, c.if-stems-le-MOST_STEMS.true, most_is)))

pub returns-else-stems-ge1 : goal.returns-else-stems-ge1
returns-else-stems-ge1 c =
    sym (no_stems_beyond c.args.word.now c.parse.result c.parse.ensures.value.0 c.in_ok-stems.stems (sym c.ok.ensures.value ∙ c.in_ok-stems.was)
    (λ made. elim c.else-stems-ge1.either as (λ _. ⊥) [
      | inl beyond ↦ absurd (omega (arith, made.1, beyond.1, most_is))
      | inr below ↦ absurd (omega (arith, made.0, below))
    ]))
