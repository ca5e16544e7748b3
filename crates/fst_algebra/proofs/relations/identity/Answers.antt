use Rattle.std.proofs.lemmas.Result.{IfOk-weaker}
use Rattle.fsa.specs.Language.{Accepts}
use Rattle.fst_algebra.proofs.Relabelled.{as_relabelled, relabelled_letters}
use Rattle.fst_algebra.proofs.Sides.{on_both, identity_relation, identity_upper, identity_lower}
use Rattle.fst_algebra.proofs.relations.identity.Goals as goal

pub returns-clause-upper : goal.returns-clause-upper
returns-clause-upper c = IfOk-weaker _ _ _ (λ m letters. identity_upper c.args.a.now m (relabelled_letters on_both c.args.a.now m letters)) c.substituted.ensures.letters

pub returns-clause-lower : goal.returns-clause-lower
returns-clause-lower c = IfOk-weaker _ _ _ (λ m letters. identity_lower c.args.a.now m (relabelled_letters on_both c.args.a.now m letters)) c.substituted.ensures.letters

pub returns-clause-relation : goal.returns-clause-relation
returns-clause-relation c = IfOk-weaker _ _ _ (λ m same. identity_relation (Accepts c.args.a.now) m (as_relabelled on_both c.args.a.now m same)) c.substituted.ensures.language
