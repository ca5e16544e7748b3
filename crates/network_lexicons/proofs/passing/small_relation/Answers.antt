use Rattle.std.proofs.lemmas.Result.{IfOk-weaker}
use Rattle.network_lexicons.proofs.Resolutions.{small_letters, small_meaning}
use Rattle.network_lexicons.proofs.passing.small_relation.Goals as goal

pub returns-clause-letters : goal.returns-clause-letters
returns-clause-letters c = IfOk-weaker _ _ _ (λ n. small_letters c.args.resolved c.in_ok-pairs.pairs n c.in_ok-pairs.ensures.letters) c.reduced.ensures.letters

pub returns-clause-meaning : goal.returns-clause-meaning
returns-clause-meaning c = IfOk-weaker _ _ _ (λ n. small_meaning c.args.resolved c.in_ok-pairs.pairs n c.in_ok-pairs.ensures.language) c.reduced.ensures.meaning
