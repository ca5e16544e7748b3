use Rattle.std.proofs.lemmas.Result.{IfOk-weaker}
use Rattle.network_algebra.proofs.EdgedWords.{edged_used, edged_accepts}
use Rattle.network_algebra.proofs.letters.with_edge.Goals as goal

pub returns-clause-letters : goal.returns-clause-letters
returns-clause-letters c = IfOk-weaker _ _ _ (edged_used c.args.a.now) c.renamed.ensures.letters

pub returns-clause-words : goal.returns-clause-words
returns-clause-words c = IfOk-weaker _ _ _ (edged_accepts c.args.a.now) c.renamed.ensures.language
