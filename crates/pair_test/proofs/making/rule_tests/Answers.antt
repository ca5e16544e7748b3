use Rattle.std.proofs.Common.{List, refl, subst, sym}
use Rattle.std.specs.List.{Contains}
use Rattle.std.proofs.lemmas.List.{take_all}
use Rattle.std.proofs.lemmas.List.Elements.{Contains-get_or}
use Rattle.two_level.specs.declared.rule.LangRule.{LangRule}
use Rattle.two_level.specs.declared.rule.PairContext.{PairContext}
use Rattle.pair_test.specs.Ready.{IsContextTest, IsRuleTest, Pairwise}
use Rattle.pair_test.proofs.Tested.{pairs_more}
use Rattle.pair_test.proofs.making.rule_tests.Goals as goal

pub context_tests-requires-clause-within : goal.context_tests-requires-clause-within
context_tests-requires-clause-within c =
    let r = c.rule-item.result in
    λ k among. c.requires.within r (subst (Contains c.args.rules.now) (sym c.rule-item.is) (Contains-get_or c.args.rules.now c.rules.rule-index r c.rules-test.true)) k
    (subst (λ (z : List PairContext). Contains z k) c.deref.ensures.value among)

pub rules-preserved : goal.rules-preserved
rules-preserved c =
    let r = c.rule-item.result in
    let tests = c.in_ok-context_tests.field-0 in
    pairs_more (IsRuleTest c.args.letters.now) c.args.rules.now c.rules.rule-index r c.rules.tests.items c.push.new.self.items (record { pair = r.pair; kind = r.kind; contexts = tests }) c.rules-test.true c.rule-item.is c.rules.invariant
    (record { pair = refl; kind = refl; contexts = subst (λ (z : List PairContext). Pairwise (IsContextTest c.args.letters.now) z tests.items) c.deref.ensures.value c.in_ok-context_tests.ensures }) c.in_ok-push.ensures.items

pub returns : goal.returns
returns c =
    subst (λ (z : List LangRule). Pairwise (IsRuleTest c.args.letters.now) z c.rules.tests.items) (take_all c.rules.rule-index c.args.rules.now c.rules-test.false) c.rules.invariant
