use Rattle.std.proofs.lemmas.Result.{IfOk-weaker}
use Rattle.replace_rules.specs.Places.{IsBody}
use Rattle.replace_rules.proofs.BlockWords.{bracketed}
use Rattle.replace_rules.proofs.blocks.replacement.Goals as goal

pub returns : goal.returns
returns c =
    IfOk-weaker _ _ _ (λ m. bracketed c.args.number (IsBody c.args.maps.now) c.in_ok-open.open c.in_ok-inside.inside c.in_ok-close.close c.in_ok-rest.rest m c.in_ok-open.ensures.language c.in_ok-inside.ensures c.in_ok-close.ensures.language c.in_ok-rest.ensures.language) c.concat-2.ensures.language
