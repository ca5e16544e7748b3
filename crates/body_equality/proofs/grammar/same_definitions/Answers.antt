use Rattle.std.proofs.Common.{refl, sym, ◌∙◌, arith, true≢false}
use Rattle.body_equality.proofs.Same.{goes_on, goes_to_end, goes_wrong}
use Rattle.body_equality.specs.RenumberedGrammars.{renumbered_definition}
use Rattle.grammar_pairs.specs.Plain.{definition_of}
use Rattle.body_equality.proofs.Together.{never}
use Rattle.body_equality.proofs.grammar.same_definitions.Goals as goal

pub returns : goal.returns
returns c =
    let same = goes_to_end definition_of (renumbered_definition c.args.numbers.now) c.args.others.now c.args.definitions.now c.places.place (omega arith) (omega arith) c.places.invariant in
    (λ yes. same, λ is. refl)

pub returns-then-not-branch : goal.returns-then-not-branch
returns-then-not-branch c =
    never (goes_wrong definition_of (renumbered_definition c.args.numbers.now) c.args.others.now c.args.definitions.now c.places.place c.index-others-place.result c.index-definitions-place.result (omega arith) c.places-test.true
    c.index-others-place.is c.index-definitions-place.is (λ same. true≢false (sym (c.in_ok-same_definition.ensures.1 same) ∙ c.if-not-branch.true)) c.places.invariant)

pub places-preserved : goal.places-preserved
places-preserved c =
    goes_on definition_of (renumbered_definition c.args.numbers.now) c.args.others.now c.args.definitions.now c.places.place c.index-others-place.result c.index-definitions-place.result (omega arith) c.places-test.true
    c.index-others-place.is c.index-definitions-place.is (c.in_ok-same_definition.ensures.0 c.if-not-branch.false) c.places.invariant
