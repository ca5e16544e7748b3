use Rattle.std.proofs.Common.{sym, subst, ◌∙◌}
use Rattle.std.proofs.lemmas.Bool.{false≢true}
use Rattle.regex_ast.specs.Flags.{IsFlag}
use Rattle.flag_texts.proofs.Shapes.{no_between, no_letter, no_kind, parts_alone, parts_both, spelled_alone, spelled_both}
use Rattle.flag_texts.proofs.reading.parts_of.Goals as goal

pub returns-then-not-is_flag : goal.returns-then-not-is_flag
returns-then-not-is_flag c = λ flag. false≢true (sym c.if-not-is_flag.true ∙ c.is_flag.ensures.flag.1 (subst IsFlag (sym c.as_bytes.ensures.value) flag))

pub returns-in_err-between : goal.returns-in_err-between
returns-in_err-between c = rw c.from_residual.ensures (λ (flag : IsFlag c.args.text.now). no_between c.args.text.now flag c.in_err-between.ensures)

pub returns-in_err-letter : goal.returns-in_err-letter
returns-in_err-letter c = rw c.from_residual-in_err-letter.ensures (λ (flag : IsFlag c.args.text.now). no_letter c.args.text.now flag c.in_ok-between.field-0.now c.in_ok-between.ensures c.in_err-letter.ensures)

pub returns-in_err-kind : goal.returns-in_err-kind
returns-in_err-kind c = rw c.from_residual-in_err-kind.ensures
    (λ (flag : IsFlag c.args.text.now). no_kind c.args.text.now flag c.in_ok-between.field-0.now c.in_ok-between.ensures c.in_ok-letter.letter.now c.in_ok-letter.rest.now c.in_ok-letter.ensures.0 c.in_ok-letter.ensures.1 c.in_err-kind.ensures)

pub returns-in-Some : goal.returns-in-Some
returns-in-Some c =
    let flag = subst IsFlag c.as_bytes.ensures.value (c.is_flag.ensures.flag.0 c.if-not-is_flag.false) in
    let parts = parts_both c.args.text.now flag c.in_ok-between.field-0.now c.in_ok-between.ensures c.in_ok-letter.letter.now c.in_ok-letter.rest.now c.in_ok-letter.ensures.0 c.in_ok-letter.ensures.1 c.in_ok-kind.kind c.in_ok-kind.ensures c.in-Some.feature.now c.in-Some.value.now c.in-Some.ensures.0 c.in-Some.ensures.1 in (
      parts.0,
      spelled_both c.args.text.now c.in_ok-between.field-0.now c.in_ok-letter.letter.now c.in_ok-letter.rest.now c.in-Some.feature.now c.in-Some.value.now c.in_ok-kind.kind c.in_ok-between.ensures c.in_ok-letter.ensures.1 c.in_ok-kind.ensures c.in-Some.ensures.1,
      parts.1,
    )

pub returns-in-None : goal.returns-in-None
returns-in-None c =
    let flag = subst IsFlag c.as_bytes.ensures.value (c.is_flag.ensures.flag.0 c.if-not-is_flag.false) in
    let parts = parts_alone c.args.text.now flag c.in_ok-between.field-0.now c.in_ok-between.ensures c.in_ok-letter.letter.now c.in_ok-letter.rest.now c.in_ok-letter.ensures.0 c.in_ok-letter.ensures.1 c.in_ok-kind.kind c.in_ok-kind.ensures c.in-None.ensures in (
      parts.0,
      spelled_alone c.args.text.now c.in_ok-between.field-0.now c.in_ok-letter.letter.now c.in_ok-letter.rest.now c.in_ok-kind.kind c.in_ok-between.ensures c.in_ok-letter.ensures.1 c.in_ok-kind.ensures,
      parts.1,
    )
