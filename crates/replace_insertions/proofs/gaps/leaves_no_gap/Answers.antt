use Rattle.std.proofs.Common.{sym, ◌∙◌}
use Rattle.std.proofs.lemmas.Result.{IfOk-weaker}
use Rattle.replace_insertions.proofs.GapWords.{gaps_filled}
use Rattle.replace_insertions.proofs.gaps.leaves_no_gap.Goals as goal

pub meets_nowhere-requires : goal.meets_nowhere-requires
meets_nowhere-requires c = c.in_ok-behind.ensures.over ∙ c.requires ∙ sym c.in_ok-before.ensures.over

pub returns : goal.returns
returns c = IfOk-weaker _ _ _ (λ kept. gaps_filled c.args.left.now c.args.right.now c.in_ok-before.before c.in_ok-behind.behind kept c.in_ok-before.ensures c.in_ok-behind.ensures) c.meets_nowhere.ensures
