use Rattle.std.proofs.lemmas.Result.{IfOk-weaker}
use Rattle.fst_algebra.proofs.Relabelled.{as_relabelled, relabelled_letters}
use Rattle.fst_algebra.proofs.Sides.{exchanged, inverse_relation, inverse_upper, inverse_lower}
use Rattle.fst_algebra.proofs.relations.inverse.Goals as goal

pub returns-clause-upper : goal.returns-clause-upper
returns-clause-upper c = IfOk-weaker _ _ _ (λ m letters. inverse_upper c.args.r.now m (relabelled_letters exchanged c.args.r.now m letters)) c.substituted.ensures.letters

pub returns-clause-lower : goal.returns-clause-lower
returns-clause-lower c = IfOk-weaker _ _ _ (λ m letters. inverse_lower c.args.r.now m (relabelled_letters exchanged c.args.r.now m letters)) c.substituted.ensures.letters

pub returns-clause-relation : goal.returns-clause-relation
returns-clause-relation c = IfOk-weaker _ _ _ (λ m same. inverse_relation c.args.r.now m (as_relabelled exchanged c.args.r.now m same)) c.substituted.ensures.language
