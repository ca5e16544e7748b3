use Rattle.std.proofs.Common.{sym, ◌∙◌}
use Rattle.std.proofs.lemmas.Result.{IfOk-weaker}
use Rattle.replace_insertions.proofs.GapWords.{two_apart}
use Rattle.replace_insertions.proofs.gaps.leaves_no_two.Goals as goal

pub meets_nowhere-requires : goal.meets_nowhere-requires
meets_nowhere-requires c = c.in_ok-behind.ensures.over ∙ sym c.in_ok-before.ensures.over

pub returns : goal.returns
returns c = IfOk-weaker _ _ _ (λ kept. two_apart c.args.marks.now c.in_ok-any.field-0 c.in_ok-all.all c.in_ok-before.before c.in_ok-behind.behind kept c.in_ok-any.ensures c.in_ok-all.ensures c.in_ok-before.ensures c.in_ok-behind.ensures) c.meets_nowhere.ensures
