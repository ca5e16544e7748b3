use Rattle.std.proofs.Common.{refl, sym, ◌∙◌, arith, true≢false}
use Rattle.body_equality.proofs.Same.{goes_on, goes_to_end, goes_wrong}
use Rattle.body_equality.specs.RenumberedGrammars.{renumbered_rule}
use Rattle.grammar_pairs.specs.Plain.{rule_of}
use Rattle.body_equality.proofs.Together.{never}
use Rattle.body_equality.proofs.grammar.same_rules.Goals as goal

pub returns : goal.returns
returns c =
    let same = goes_to_end rule_of (renumbered_rule c.args.numbers.now) c.args.others.now c.args.rules.now c.places.place (omega arith) (omega arith) c.places.invariant in
    (λ yes. same, λ is. refl)

pub returns-then-not-branch : goal.returns-then-not-branch
returns-then-not-branch c =
    never (goes_wrong rule_of (renumbered_rule c.args.numbers.now) c.args.others.now c.args.rules.now c.places.place c.index-others-place.result c.index-rules-place.result (omega arith) c.places-test.true
    c.index-others-place.is c.index-rules-place.is (λ same. true≢false (sym (c.in_ok-same_rule.ensures.1 same) ∙ c.if-not-branch.true)) c.places.invariant)

pub places-preserved : goal.places-preserved
places-preserved c =
    goes_on rule_of (renumbered_rule c.args.numbers.now) c.args.others.now c.args.rules.now c.places.place c.index-others-place.result c.index-rules-place.result (omega arith) c.places-test.true
    c.index-others-place.is c.index-rules-place.is (c.in_ok-same_rule.ensures.0 c.if-not-branch.false) c.places.invariant
