use Rattle.std.proofs.Common.{◌∙◌}
use Rattle.std.proofs.lemmas.Result.{IfOk-weaker}
use Rattle.replace_directed.proofs.ShapeWords.{shaped_words}
use Rattle.replace_directed.proofs.shapes.shaped.Goals as goal

pub over-requires : goal.over-requires
over-requires c = rw c.letters-marks.ensures.letters c.letters-marks.ensures.complete.distinct

pub both-requires : goal.both-requires
both-requires c = c.in_ok-wanted.ensures.over ∙ c.letters-marks.ensures.letters

pub returns : goal.returns
returns c = IfOk-weaker _ _ _ (λ last. shaped_words c.args.lang.now c.letters-marks.result.now c.args.shape.now c.in_ok-wanted.wanted last c.letters-marks.ensures.letters c.in_ok-wanted.ensures) c.both.ensures
