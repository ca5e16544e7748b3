use Rattle.std.proofs.Common.{sym, ◌∙◌}
use Rattle.std.proofs.lemmas.Result.{IfOk-weaker}
use Rattle.replace_insertions.proofs.FilledWords.{gaps_left}
use Rattle.replace_insertions.proofs.filling.without_gaps.Goals as goal

pub leaves_no_gap-requires : goal.leaves_no_gap-requires
leaves_no_gap-requires c = c.requires.right ∙ sym c.requires.left

pub both-requires : goal.both-requires
both-requires c = c.in_ok-whole.ensures.over ∙ c.requires.left

pub returns : goal.returns
returns c = IfOk-weaker _ _ _ (λ last. gaps_left c.args.words.now c.args.left.now c.args.right.now c.in_ok-whole.whole last c.requires.left c.in_ok-whole.ensures) c.both.ensures
