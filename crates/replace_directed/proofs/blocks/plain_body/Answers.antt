use Rattle.std.proofs.lemmas.Result.{IfOk-weaker}
use Rattle.replace_directed.proofs.BlockWords.{plain_words}
use Rattle.replace_directed.proofs.blocks.plain_body.Goals as goal

pub returns : goal.returns
returns c =
    IfOk-weaker _ _ _ (λ m. plain_words c.args.centre.now c.args.put.now c.in_ok-centre.centre c.in_ok-put.put c.in_ok-upper.upper c.in_ok-lower.lower m c.in_ok-centre.ensures.language c.in_ok-put.ensures.language c.in_ok-upper.ensures c.in_ok-lower.ensures) c.concat.ensures.language
