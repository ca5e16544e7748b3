use Rattle.std.proofs.Common.{List, ℕ, ◌≡◌, Result, Ok, Err, IfErr, ap, sym, subst, ◌∙◌, length, arith}
use Rattle.std.specs.Result.{IsErrAnd}
use Rattle.std.specs.Str.{chars}
use Rattle.fsm_base.specs.Normal.{IsWhyNoText, nfc_of, source_text, without_mark, without_returns}
use Rattle.fsm_base.specs.declared.normalize.TextError.{TextError}
use Rattle.fsm_base.proofs.NormalLemmas.{source_text-no_utf8, source_text-utf8, text_of_characters-kept, text_of_characters-refused}
use Rattle.fsm_base.proofs.normalize.normal.Goals as goal

-- an error that is passed on says the same
passed_on : {A : Type 0} (r : Result A TextError) (e : TextError) (text : Result (List ℕ) TextError) → IsErrAnd r (λ x. x ≡ e) → IsWhyNoText text e → IfErr r (IsWhyNoText text)
passed_on (Ok x) e text h why = tt
passed_on (Err x) e text h why = subst (λ v. IsWhyNoText text v) (sym h) why

-- the characters that are looked through are those of the bytes, but for what is left out
looked_through : (bytes text marked kept whole : List ℕ) → text ≡ bytes → chars marked ≡ without_mark (chars text) → chars kept ≡ without_returns (chars marked) → whole ≡ kept
    → chars whole ≡ without_returns (without_mark (chars bytes))
looked_through bytes text marked kept whole same mark returns is =
    ap chars is ∙ returns ∙ ap without_returns mark ∙ ap (λ (bytes : List ℕ). without_returns (without_mark (chars bytes))) same

pub returns-in_err-utf8-clause-no_text : goal.returns-in_err-utf8-clause-no_text
returns-in_err-utf8-clause-no_text c =
    let bytes = c.args.bytes.now in
    let why = subst (IsWhyNoText (source_text bytes)) (sym c.in_err-utf8.ensures.1) (source_text-no_utf8 bytes c.in_err-utf8.ensures.0) in
    passed_on c.from_residual.result c.in_err-utf8.field-0.0 (source_text bytes) c.from_residual.ensures.1 why

pub returns-in-Some-clause-no_text : goal.returns-in-Some-clause-no_text
returns-in-Some-clause-no_text c =
    let characters = looked_through c.args.bytes.now _ _ _ _ c.in_ok-utf8.ensures.0 c.without_mark.ensures.characters c.in_ok-text.ensures.characters c.as_str.ensures.value in
    source_text-utf8 c.args.bytes.now (chars c.as_str.result.now) c.in_ok-utf8.ensures.1 characters
    ∙ text_of_characters-refused (chars c.as_str.result.now) c.in-Some.line c.in-Some.ensures.0 c.in-Some.ensures.1

pub returns-clause-text : goal.returns-clause-text
returns-clause-text c =
    let characters = looked_through c.args.bytes.now _ _ _ _ c.in_ok-utf8.ensures.0 c.without_mark.ensures.characters c.in_ok-text.ensures.characters c.as_str.ensures.value in
    source_text-utf8 c.args.bytes.now (chars c.as_str.result.now) c.in_ok-utf8.ensures.1 characters
    ∙ text_of_characters-kept (chars c.as_str.result.now) c.in-None.ensures
    ∙ ap (λ (bytes : List ℕ). Ok (nfc_of bytes)) (c.as_str.ensures.value ∙ sym c.as_str-in-None.ensures.value)
    ∙ ap Ok (sym c.in_ok-nfc-in-None.ensures.text)

pub returns-clause-short : goal.returns-clause-short
returns-clause-short c =
    omega (
      arith,
      c.in_ok-nfc-in-None.ensures.short,
      ap length c.as_str-in-None.ensures.value,
      c.in_ok-text.ensures.short,
      c.without_mark.ensures.short,
      ap length c.in_ok-utf8.ensures.0,
    )
