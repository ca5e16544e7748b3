use Rattle.std.proofs.lemmas.Result.{IfOk-weaker}
use Rattle.replace_directed.proofs.ShapeWords.{beyond_words}
use Rattle.replace_directed.proofs.shapes.going_beyond.Goals as goal

pub returns : goal.returns
returns c =
    IfOk-weaker _ _ _ (λ last is. beyond_words c.args.lang.now c.letters-marks.result.now c.letters-marks.ensures.letters c.in_ok-shape.shape last is c.in_ok-rest.rest c.in_ok-symbol.symbol c.in_ok-closed.closed
    c.in_ok-rest.ensures c.in_ok-symbol.ensures c.in_ok-closed.ensures c.in_ok-shape.ensures) c.shaped.ensures
