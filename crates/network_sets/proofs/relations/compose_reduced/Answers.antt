use Rattle.std.proofs.lemmas.Result.{IfOk-weaker}
use Rattle.fst_algebra.specs.Relation.{IsRelated}
use Rattle.fst_algebra.specs.Relations.{UsesLower, UsesUpper}
use Rattle.word_relations.specs.Relations.{IsComposition}
use Rattle.network_algebra.proofs.Smaller.{lower_used, same_relation, upper_used}
use Rattle.network_sets.proofs.relations.compose_reduced.Goals as goal

pub returns-clause-upper : goal.returns-clause-upper
returns-clause-upper c =
    IfOk-weaker _ _ _ (λ m used. upper_used m c.in_ok-compose.field-0 (UsesUpper c.args.r.now) (λ x uses. c.in_ok-composed.ensures.letters x (used x uses)) c.in_ok-compose.ensures.upper) c.straightened.ensures.letters

pub returns-clause-lower : goal.returns-clause-lower
returns-clause-lower c =
    IfOk-weaker _ _ _ (λ m used. lower_used m c.in_ok-compose.field-0 (UsesLower c.args.s.now) (λ x uses. c.in_ok-composed.ensures.letters x (used x uses)) c.in_ok-compose.ensures.lower) c.straightened.ensures.letters

pub returns-clause-relation : goal.returns-clause-relation
returns-clause-relation c =
    IfOk-weaker _ _ _ (λ m same. same_relation m c.in_ok-compose.field-0 (IsComposition (IsRelated c.args.r.now) (IsRelated c.args.s.now)) (λ pairs. (
      λ p. (c.in_ok-composed.ensures.language pairs).0 ((same pairs).0 p),
      λ p. (same pairs).1 ((c.in_ok-composed.ensures.language pairs).1 p),
    )) c.in_ok-compose.ensures.relation) c.straightened.ensures.language
