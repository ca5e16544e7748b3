use Rattle.std.proofs.lemmas.Result.{IfOk-weaker}
use Rattle.replace_insertions.proofs.GapWords.{apart_words}
use Rattle.replace_insertions.proofs.gaps.meets_nowhere.Goals as goal

pub returns : goal.returns
returns c = IfOk-weaker _ _ _ (λ kept. apart_words c.args.before.now c.args.behind.now c.in_ok-broken.broken kept c.in_ok-broken.ensures) c.complement.ensures
