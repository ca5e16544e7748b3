use Rattle.std.proofs.lemmas.Result.{IfOk-weaker}
use Rattle.replace_directed.proofs.BlockWords.{markup_words}
use Rattle.replace_directed.proofs.blocks.markup_body.Goals as goal

pub returns : goal.returns
returns c =
    IfOk-weaker _ _ _ (λ m. markup_words c.args.before.now c.args.centre.now c.args.after.now c.in_ok-before.before c.in_ok-centre.centre c.in_ok-after.after c.in_ok-front.front c.in_ok-kept.kept c.in_ok-behind.behind c.in_ok-start.start m
    c.in_ok-before.ensures.language c.in_ok-centre.ensures.language c.in_ok-after.ensures.language c.in_ok-front.ensures c.in_ok-kept.ensures c.in_ok-behind.ensures c.in_ok-start.ensures.language) c.concat-2.ensures.language
