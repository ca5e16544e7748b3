use Rattle.std.proofs.lemmas.Result.{IfOk-weaker}
use Rattle.fsa.specs.Language.{Accepts}
use Rattle.replace_directed.proofs.ShapeWords.{starting_words}
use Rattle.replace_directed.proofs.shapes.starting.Goals as goal

pub returns : goal.returns
returns c = IfOk-weaker _ _ _ (λ m. starting_words c.args.marks.now c.args.kind (Accepts c.args.rest.now) c.in_ok-first.first m c.in_ok-first.ensures) c.concat.ensures.language
