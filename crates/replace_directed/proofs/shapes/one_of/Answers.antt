use Rattle.std.proofs.lemmas.Result.{IfOk-weaker}
use Rattle.replace_directed.proofs.ShapeWords.{one_words}
use Rattle.replace_directed.proofs.shapes.one_of.Goals as goal

pub returns : goal.returns
returns c = IfOk-weaker _ _ _ (λ m. one_words c.args.marks.now c.in_ok-found.found.items c.args.kind m c.in_ok-found.ensures) (rw c.deref.ensures.value at c.one_letter.ensures.language)
