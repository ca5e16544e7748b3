use Rattle.std.proofs.lemmas.Result.{IfOk-weaker}
use Rattle.replace_directed.proofs.ShapeWords.{begun_words}
use Rattle.replace_directed.proofs.shapes.beginning_with.Goals as goal

pub returns : goal.returns
returns c =
    IfOk-weaker _ _ _ (λ last is. begun_words c.args.lang.now c.letters-marks.result.now c.letters-marks.ensures.letters c.in_ok-shape.shape last is c.args.kind c.in_ok-rest.rest c.in_ok-rest.ensures c.in_ok-shape.ensures) c.shaped.ensures
