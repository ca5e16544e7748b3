use Rattle.std.proofs.Common.{◌∙◌}
use Rattle.std.proofs.lemmas.Result.{IfOk-weaker}
use Rattle.replace_insertions.specs.Marked.{IsAskedAt}
use Rattle.replace_insertions.proofs.FilledWords.{asked_kept}
use Rattle.replace_insertions.proofs.filling.filled_at.Goals as goal

pub over-requires : goal.over-requires
over-requires c = rw c.letters-marks.ensures.letters c.letters-marks.ensures.complete.distinct

pub both-requires : goal.both-requires
both-requires c = c.in_ok-asked.ensures.over ∙ c.in_ok-all.ensures.over ∙ c.letters-marks.ensures.letters

pub returns : goal.returns
returns c =
    IfOk-weaker _ _ _ (λ last. asked_kept c.letters-marks.result.now (λ w. IsAskedAt c.args.side c.args.optional c.args.number c.args.context.now w) c.in_ok-any.field-0 c.args.words.now c.in_ok-all.all c.in_ok-asked.asked last c.letters-marks.ensures.letters
    c.in_ok-any.ensures c.in_ok-all.ensures c.in_ok-asked.ensures) c.both.ensures
