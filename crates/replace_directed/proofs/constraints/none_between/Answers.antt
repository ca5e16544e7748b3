use Rattle.std.proofs.Common.{sym, ◌∙◌}
use Rattle.std.proofs.lemmas.Result.{IfOk-weaker}
use Rattle.replace_directed.proofs.Kept.{none_words}
use Rattle.replace_directed.proofs.constraints.none_between.Goals as goal

pub concat-requires : goal.concat-requires
concat-requires c = c.requires.right ∙ sym c.requires.middle

pub concat-requires-2 : goal.concat-requires-2
concat-requires-2 c = c.in_ok-rest.ensures.over ∙ c.requires.middle

pub returns : goal.returns
returns c = IfOk-weaker _ _ _ (λ kept. none_words c.args.left.now c.args.middle.now c.args.right.now c.in_ok-rest.rest c.in_ok-broken.broken kept c.in_ok-rest.ensures c.in_ok-broken.ensures) c.complement.ensures
