use Rattle.std.proofs.Common.{◌∙◌}
use Rattle.std.proofs.lemmas.Result.{IfOk-weaker}
use Rattle.replace_insertions.proofs.GapWords.{begun_words}
use Rattle.replace_insertions.proofs.gaps.beginning_with.Goals as goal

pub over-requires : goal.over-requires
over-requires c = rw c.letters-marks.ensures.letters c.letters-marks.ensures.complete.distinct

pub both-requires : goal.both-requires
both-requires c = c.in_ok-begun.ensures.over ∙ c.letters-marks.ensures.letters

pub returns : goal.returns
returns c =
    IfOk-weaker _ _ _ (λ last is. begun_words c.args.lang.now c.letters-marks.result.now c.letters-marks.ensures.letters c.args.kind c.in_ok-found.found.items c.in_ok-any.any c.in_ok-one.one c.in_ok-whole.whole c.in_ok-begun.begun last
    c.in_ok-found.ensures c.in_ok-any.ensures (rw c.deref.ensures.value at c.in_ok-one.ensures.language) c.in_ok-begun.ensures is c.in_ok-whole.ensures.language) c.both.ensures
