use Rattle.std.proofs.lemmas.Result.{IfOk-weaker}
use Rattle.fst_algebra.proofs.Relabelled.{as_relabelled, relabelled_letters}
use Rattle.fst_algebra.proofs.Sides.{lower_of, lower_language}
use Rattle.fst_algebra.proofs.relations.lower.Goals as goal

pub returns-clause-letters : goal.returns-clause-letters
returns-clause-letters c = IfOk-weaker _ _ _ (λ m letters. relabelled_letters lower_of c.args.r.now m letters) c.substituted.ensures.letters

pub returns-clause-language : goal.returns-clause-language
returns-clause-language c = IfOk-weaker _ _ _ (λ m same. lower_language c.args.r.now m (as_relabelled lower_of c.args.r.now m same)) c.substituted.ensures.language
