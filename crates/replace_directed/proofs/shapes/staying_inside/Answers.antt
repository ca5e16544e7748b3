use Rattle.std.proofs.lemmas.Result.{IfOk-weaker}
use Rattle.replace_directed.proofs.ShapeWords.{inside_words}
use Rattle.replace_directed.proofs.shapes.staying_inside.Goals as goal

pub returns : goal.returns
returns c =
    IfOk-weaker _ _ _ (λ last is. inside_words c.args.lang.now c.letters-marks.result.now c.letters-marks.ensures.letters c.in_ok-shape.shape last is c.in_ok-within.within.items c.in_ok-rest.rest
    c.in_ok-within.ensures (rw c.deref.ensures.value at c.in_ok-rest.ensures) c.in_ok-shape.ensures) c.shaped.ensures
