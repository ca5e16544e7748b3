use Rattle.std.proofs.lemmas.Result.{IfOk-weaker}
use Rattle.replace_directed.proofs.TurnedRules.{turned_lang}
use Rattle.replace_directed.proofs.turning.turned_lang.Goals as goal

pub returns : goal.returns
returns g c = IfOk-weaker _ _ _ (λ b. turned_lang c.args.lang.now b) c.reverse.ensures
