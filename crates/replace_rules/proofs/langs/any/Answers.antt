use Rattle.std.proofs.lemmas.Result.{IfOk-weaker}
use Rattle.replace_rules.proofs.Sets.{any_words}
use Rattle.replace_rules.proofs.langs.any.Goals as goal

pub returns : goal.returns
returns c = IfOk-weaker _ _ _ (λ m. any_words c.args.marks.now c.in_ok-one.one m c.in_ok-one.ensures.language) c.star.ensures.language
