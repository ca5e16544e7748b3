use Rattle.std.proofs.lemmas.Result.{IfOk-weaker}
use Rattle.fsa.specs.Language.{Accepts}
use Rattle.replace_directed.proofs.BlockWords.{bracketed}
use Rattle.replace_directed.proofs.blocks.bracketed.Goals as goal

pub returns : goal.returns
returns c =
    IfOk-weaker _ _ _ (λ m. bracketed c.args.number (Accepts c.args.inside.now) c.in_ok-open.open c.args.inside.now c.in_ok-close.close c.in_ok-rest.rest m c.in_ok-open.ensures.language (λ v. (λ h. h, λ h. h)) c.in_ok-close.ensures.language c.in_ok-rest.ensures.language) c.concat-2.ensures.language
