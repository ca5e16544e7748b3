use Rattle.std.proofs.Common.{refl}
use Rattle.word_relations.specs.Relations.{IsComposition}
use Rattle.word_relations.proofs.Pairs.{same_trans}
use Rattle.fst_algebra.specs.Relation.{IsRelated}
use Rattle.fst_flagged.specs.Flagged.{FlaggedRelates}
use Rattle.network_algebra.proofs.Conditions.{resolved_symbols}
use Rattle.network_sets.proofs.Conditions.{composition_same, letters_above, letters_composed}
use Rattle.network_sets.proofs.conditional.with_plain_above.Goals as goal

pub returns-then-has_no_conditions-clause-letters : goal.returns-then-has_no_conditions-clause-letters
returns-then-has_no_conditions-clause-letters c symbols above below =
    c.in_ok-reduced.ensures.letters symbols (letters_above c.args.x.now c.args.y.now c.in_ok-composed.composed c.in_ok-composed.ensures.upper c.in_ok-composed.ensures.lower symbols above below)

pub returns-then-has_no_conditions-clause-meaning : goal.returns-then-has_no_conditions-clause-meaning
returns-then-has_no_conditions-clause-meaning c = record {
  kind_is = refl;
  pairs =
      same_trans (FlaggedRelates c.in_ok-reduced.field-0) (FlaggedRelates c.in_ok-composed.composed) (IsComposition (IsRelated c.args.x.now) (FlaggedRelates c.args.y.now)) c.in_ok-reduced.ensures.relation c.in_ok-composed.ensures.relation;
}

pub returns-clause-letters : goal.returns-clause-letters
returns-clause-letters c symbols above below =
    letters_composed c.args.x.now c.in_ok-below.below c.in_ok-compose_reduced.field-0 c.in_ok-compose_reduced.ensures.upper c.in_ok-compose_reduced.ensures.lower symbols above
    (resolved_symbols c.args.y.now c.in_ok-below.below c.in_ok-below.ensures.upper c.in_ok-below.ensures.lower symbols below)

pub returns-clause-meaning : goal.returns-clause-meaning
returns-clause-meaning c = record {
  kind_is = refl;
  pairs =
      same_trans (IsRelated c.in_ok-compose_reduced.field-0) (IsComposition (IsRelated c.args.x.now) (IsRelated c.in_ok-below.below)) (IsComposition (IsRelated c.args.x.now) (FlaggedRelates c.args.y.now)) c.in_ok-compose_reduced.ensures.relation
      (composition_same (IsRelated c.args.x.now) (IsRelated c.args.x.now) (IsRelated c.in_ok-below.below) (FlaggedRelates c.args.y.now) (λ u w. (λ h. h, λ h. h)) c.in_ok-below.ensures.relation);
}
