use Rattle.std.proofs.lemmas.Result.{IfOk-weaker}
use Rattle.fst_algebra.specs.Relations.{UsesLower}
use Rattle.network_algebra.proofs.Smaller.{letters_used}
use Rattle.network_algebra.proofs.relations.lower.Goals as goal

pub returns-clause-letters : goal.returns-clause-letters
returns-clause-letters c = IfOk-weaker _ _ _ (λ m used. letters_used m c.in_ok-lower.field-0 (UsesLower c.args.r.now) used c.in_ok-lower.ensures.letters) c.reduced-2.ensures.letters
