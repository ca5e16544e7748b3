use Rattle.std.proofs.Common.{sym, ap, subst, ◌∙◌, arith}
use Rattle.regex_tokens.specs.declared.comments.Comments.TheVariants.{OfEntries}
use Rattle.std.specs.Str.{IsUtf8}
use Rattle.std.proofs.lemmas.Str.{IsUtf8-drop}
use Rattle.regex_tokens.specs.Cuts.{behind_gap}
use Rattle.regex_tokens.specs.Reading.{gap_step}
use Rattle.regex_tokens.proofs.Gaps.{Step, step_some, step_none}
use Rattle.twolc_tokens.proofs.gap.behind_gap.Goals as goal

pub split_at-requires : goal.split_at-requires
split_at-requires c = (step_some OfEntries c.gap.rest.now c.in-Some.len c.gap.invariant.1 (sym (c.in-Some.ensures ∙ ap (gap_step OfEntries) c.as_bytes.ensures.value))).cut

pub gap-preserved : goal.gap-preserved
gap-preserved c =
    let step : Step OfEntries c.gap.rest.now c.in-Some.len = step_some OfEntries c.gap.rest.now c.in-Some.len c.gap.invariant.1 (sym (c.in-Some.ensures ∙ ap (gap_step OfEntries) c.as_bytes.ensures.value)) in (
      c.gap.invariant.0 ∙ step.same ∙ sym (ap (behind_gap OfEntries) c.split_at.ensures.back),
      subst IsUtf8 (sym c.split_at.ensures.back) (IsUtf8-drop c.gap.rest.now c.in-Some.len c.gap.invariant.1 step.cut),
    )

pub gap-smaller : goal.gap-smaller
gap-smaller c =
    let step : Step OfEntries c.gap.rest.now c.in-Some.len = step_some OfEntries c.gap.rest.now c.in-Some.len c.gap.invariant.1 (sym (c.in-Some.ensures ∙ ap (gap_step OfEntries) c.as_bytes.ensures.value)) in
    omega (arith, step.some, step.cut.0, c.split_at.ensures.back_len)

pub returns : goal.returns
returns c = sym (c.gap.invariant.0 ∙ step_none OfEntries c.gap.rest.now (sym (c.in_default.ensures ∙ ap (gap_step OfEntries) c.as_bytes.ensures.value)))
