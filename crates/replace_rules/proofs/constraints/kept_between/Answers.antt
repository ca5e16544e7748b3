use Rattle.std.proofs.Common.{sym, ◌∙◌}
use Rattle.std.proofs.lemmas.Result.{IfOk-weaker}
use Rattle.replace_rules.proofs.Sets.{between_kept}
use Rattle.replace_rules.proofs.constraints.kept_between.Goals as goal

pub both-requires : goal.both-requires
both-requires c = c.in_ok-begun.ensures.over ∙ c.requires.left

pub both-requires-2 : goal.both-requires-2
both-requires-2 c = c.in_ok-ended.ensures.over ∙ c.requires.right ∙ sym c.in_ok-first.ensures.over

pub returns : goal.returns
returns c =
    IfOk-weaker _ _ _ (λ second. between_kept c.args.place c.args.words.now c.args.left.now c.args.right.now c.in_ok-begun.begun c.in_ok-ended.ended c.in_ok-first.first second c.requires.left c.requires.right
    c.in_ok-begun.ensures c.in_ok-ended.ensures c.in_ok-first.ensures) c.both-2.ensures
