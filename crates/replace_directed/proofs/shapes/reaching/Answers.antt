use Rattle.std.proofs.lemmas.Result.{IfOk-weaker}
use Rattle.fsa.specs.Language.{Accepts}
use Rattle.replace_directed.proofs.ShapeWords.{reaching_words}
use Rattle.replace_directed.proofs.shapes.reaching.Goals as goal

pub returns : goal.returns
returns c = IfOk-weaker _ _ _ (λ m. reaching_words c.args.marks.now c.args.kind (Accepts c.args.rest.now) c.in_ok-before.before c.in_ok-found.found m c.in_ok-before.ensures c.in_ok-found.ensures) c.concat.ensures.language
