use Rattle.std.proofs.lemmas.Result.{IfOk-weaker}
use Rattle.two_level.proofs.KeptStrings.{only_kept}
use Rattle.two_level.proofs.rules.kept_only.Goals as goal

pub returns : goal.returns
returns c = IfOk-weaker _ _ _ (λ made. only_kept c.args.pairs.now c.args.rule.now.pair c.args.rule.now.contexts.items c.args.holding.now c.requires.holding c.args.every.now c.in_ok-lacking.lacking made c.requires.every c.in_ok-lacking.ensures) c.standing_nowhere.ensures
