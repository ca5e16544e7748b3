use Rattle.std.proofs.Common.{sym, ◌∙◌}
use Rattle.std.proofs.lemmas.Result.{IfOk-weaker}
use Rattle.replace_rules.proofs.KeptWords.{centres_left}
use Rattle.replace_rules.proofs.keeping.without_centres.Goals as goal

pub leaves_none-requires : goal.leaves_none-requires
leaves_none-requires c = c.requires.right ∙ sym c.requires.left

pub both-requires : goal.both-requires
both-requires c = c.in_ok-whole.ensures.over ∙ c.requires.left

pub returns : goal.returns
returns c =
    IfOk-weaker _ _ _ (λ last. centres_left c.args.maps.now c.args.words.now c.args.left.now c.args.right.now c.in_ok-whole.whole last c.in_ok-centre.centre c.requires.left c.in_ok-centre.ensures c.in_ok-whole.ensures) c.both.ensures
