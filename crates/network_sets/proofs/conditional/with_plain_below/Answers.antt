use Rattle.std.proofs.Common.{refl}
use Rattle.word_relations.specs.Relations.{IsComposition}
use Rattle.word_relations.proofs.Pairs.{same_trans}
use Rattle.fst_algebra.specs.Relation.{IsRelated}
use Rattle.fst_flagged.specs.Flagged.{FlaggedRelates}
use Rattle.network_algebra.proofs.Conditions.{resolved_symbols}
use Rattle.network_sets.proofs.Conditions.{composition_same, letters_below, letters_composed}
use Rattle.network_sets.proofs.conditional.with_plain_below.Goals as goal

pub returns-then-has_no_conditions-clause-letters : goal.returns-then-has_no_conditions-clause-letters
returns-then-has_no_conditions-clause-letters c symbols above below =
    c.in_ok-reduced.ensures.letters symbols (letters_below c.args.x.now c.in_ok-composed.composed c.args.y.now c.in_ok-composed.ensures.upper c.in_ok-composed.ensures.lower symbols above below)

pub returns-then-has_no_conditions-clause-meaning : goal.returns-then-has_no_conditions-clause-meaning
returns-then-has_no_conditions-clause-meaning c = record {
  kind_is = refl;
  pairs =
      same_trans (FlaggedRelates c.in_ok-reduced.field-0) (FlaggedRelates c.in_ok-composed.composed) (IsComposition (FlaggedRelates c.args.x.now) (IsRelated c.args.y.now)) c.in_ok-reduced.ensures.relation c.in_ok-composed.ensures.relation;
}

pub returns-clause-letters : goal.returns-clause-letters
returns-clause-letters c symbols above below =
    letters_composed c.in_ok-above.above c.args.y.now c.in_ok-compose_reduced.field-0 c.in_ok-compose_reduced.ensures.upper c.in_ok-compose_reduced.ensures.lower symbols
    (resolved_symbols c.args.x.now c.in_ok-above.above c.in_ok-above.ensures.upper c.in_ok-above.ensures.lower symbols above) below

pub returns-clause-meaning : goal.returns-clause-meaning
returns-clause-meaning c = record {
  kind_is = refl;
  pairs =
      same_trans (IsRelated c.in_ok-compose_reduced.field-0) (IsComposition (IsRelated c.in_ok-above.above) (IsRelated c.args.y.now)) (IsComposition (FlaggedRelates c.args.x.now) (IsRelated c.args.y.now)) c.in_ok-compose_reduced.ensures.relation
      (composition_same (IsRelated c.in_ok-above.above) (FlaggedRelates c.args.x.now) (IsRelated c.args.y.now) (IsRelated c.args.y.now) c.in_ok-above.ensures.relation (λ u w. (λ h. h, λ h. h)));
}
