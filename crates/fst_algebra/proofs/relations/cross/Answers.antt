use Rattle.std.proofs.lemmas.Result.{IfOk-weaker}
use Rattle.fsa.specs.Language.{Accepts}
use Rattle.fst_algebra.proofs.Relabelled.{as_relabelled, relabelled_letters}
use Rattle.fst_algebra.proofs.Sides.{on_upper, on_lower, cross_relation, cross_upper, cross_lower}
use Rattle.fst_algebra.proofs.relations.cross.Goals as goal

pub returns-clause-upper : goal.returns-clause-upper
returns-clause-upper c =
    IfOk-weaker _ _ _ (λ m both. cross_upper c.args.a.now c.args.b.now c.in_ok-above.above c.in_ok-below.below m (relabelled_letters on_upper c.args.a.now c.in_ok-above.above c.in_ok-above.ensures.letters) (relabelled_letters on_lower c.args.b.now c.in_ok-below.below c.in_ok-below.ensures.letters) both) c.concat.ensures.letters

pub returns-clause-lower : goal.returns-clause-lower
returns-clause-lower c =
    IfOk-weaker _ _ _ (λ m both. cross_lower c.args.a.now c.args.b.now c.in_ok-above.above c.in_ok-below.below m (relabelled_letters on_upper c.args.a.now c.in_ok-above.above c.in_ok-above.ensures.letters) (relabelled_letters on_lower c.args.b.now c.in_ok-below.below c.in_ok-below.ensures.letters) both) c.concat.ensures.letters

pub returns-clause-relation : goal.returns-clause-relation
returns-clause-relation c =
    IfOk-weaker _ _ _ (λ m both. cross_relation (Accepts c.args.a.now) (Accepts c.args.b.now) c.in_ok-above.above c.in_ok-below.below m (as_relabelled on_upper c.args.a.now c.in_ok-above.above c.in_ok-above.ensures.language) (as_relabelled on_lower c.args.b.now c.in_ok-below.below c.in_ok-below.ensures.language) both) c.concat.ensures.language
