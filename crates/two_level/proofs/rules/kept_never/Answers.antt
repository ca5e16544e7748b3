use Rattle.std.proofs.lemmas.Result.{IfOk-weaker}
use Rattle.two_level.proofs.KeptStrings.{never_kept}
use Rattle.two_level.proofs.rules.kept_never.Goals as goal

pub returns : goal.returns
returns c = IfOk-weaker _ _ _ (never_kept c.args.pairs.now c.args.rule.now.pair c.args.rule.now.contexts.items c.args.holding.now c.requires.holding) c.standing_nowhere.ensures
