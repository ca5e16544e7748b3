use Rattle.std.proofs.Common.{List, subst, sym}
use Rattle.std.specs.List.{Contains}
use Rattle.std.proofs.lemmas.Result.{IfOk-weaker}
use Rattle.fsm_base.specs.declared.letters.Pair.{Pair}
use Rattle.word_relations.specs.Words.{IsOver}
use Rattle.two_level.specs.declared.rule.LangRule.{LangRule}
use Rattle.pair_test.specs.Ready.{AreTests, IsRuleTest, TestsView}
use Rattle.pair_test.specs.Rules.{IsRuleBrokenAt, IsVerdictOn}
use Rattle.pair_test.specs.Tests.{IsBrokenBy, placed_letters}
use Rattle.pair_test.specs.Verdicts.{IsVerdict}
use Rattle.pair_test.specs.declared.ready.RuleTest.{RuleTest}
use Rattle.pair_test.proofs.Tested.{broken_same, verdict_same}
use Rattle.pair_test.proofs.rule_tests.RuleTests.verdict.Goals as goal

pub spelled_by-requires : goal.spelled_by-requires
spelled_by-requires c = subst (λ (z : TestsView). IsOver z.pairs c.args.word.now) (sym c.self.view_is) c.requires.over

pub first_of-requires-clause-fits : goal.first_of-requires-clause-fits
first_of-requires-clause-fits c = λ t among k inside.
    let r = c.self.invariant t (subst (λ (z : List RuleTest). Contains z t) c.deref.ensures.value among) k inside in
    (placed_letters c.self.inside.pairs.keys, c.in_ok-spelled.ensures.places, r.0, r.1)

pub returns : goal.returns
returns c =
    let keys = c.self.inside.pairs.keys in
    let word = c.args.word.now in
    let tests = c.self.inside.rules.items in
    let over : IsOver keys word = subst (λ (z : TestsView). IsOver z.pairs word) (sym c.self.view_is) c.requires.over in
    IfOk-weaker c.first_of.result (IsVerdict (IsBrokenBy c.in_ok-spelled.spelled.word.now) c.deref.result.now)
    (λ verdict. (pairs : List Pair) (rules : List LangRule) → AreTests pairs rules c.args.self.now → IsVerdictOn rules word verdict)
    (λ verdict is pairs rules are.
    let own : AreTests pairs rules (record { pairs = keys; rules = tests }) = subst (AreTests pairs rules) (sym c.self.view_is) are in
    verdict_same (IsRuleTest (placed_letters keys)) (IsRuleBrokenAt word) (IsBrokenBy word) (broken_same keys word over) rules tests own.rules_are verdict
    (subst (λ (w : List Pair). IsVerdict (IsBrokenBy w) tests verdict) c.in_ok-spelled.ensures.word
    (subst (λ (z : List RuleTest). IsVerdict (IsBrokenBy c.in_ok-spelled.spelled.word.now) z verdict) c.deref.ensures.value is)))
    c.first_of.ensures
