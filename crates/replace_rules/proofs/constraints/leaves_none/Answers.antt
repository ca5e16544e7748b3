use Rattle.std.proofs.lemmas.Result.{IfOk-weaker}
use Rattle.replace_rules.proofs.Sets.{none_left}
use Rattle.replace_rules.proofs.constraints.leaves_none.Goals as goal

pub returns : goal.returns
returns c =
    IfOk-weaker _ _ _ (λ kept. none_left c.letters-marks.result.now c.args.left.now c.args.right.now c.in_ok-broken.broken kept c.letters-marks.ensures.letters c.args.centre.now c.in_ok-before.before c.in_ok-copied.copied c.in_ok-behind.behind
    c.in_ok-rest.rest c.in_ok-whole.whole c.in_ok-before.ensures.language c.in_ok-copied.ensures c.in_ok-behind.ensures.language c.in_ok-rest.ensures.language c.in_ok-whole.ensures.language c.in_ok-broken.ensures) c.complement.ensures
