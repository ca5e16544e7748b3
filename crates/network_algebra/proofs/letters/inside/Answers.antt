use Rattle.std.proofs.lemmas.Result.{IfOk-weaker}
use Rattle.network_algebra.proofs.EdgedWords.{inside_used, inside_accepts}
use Rattle.network_algebra.proofs.letters.inside.Goals as goal

pub returns-clause-letters : goal.returns-clause-letters
returns-clause-letters c = IfOk-weaker _ _ _ (inside_used c.args.a.now) c.renamed.ensures.letters

pub returns-clause-words : goal.returns-clause-words
returns-clause-words c = IfOk-weaker _ _ _ (inside_accepts c.args.a.now) c.renamed.ensures.language
