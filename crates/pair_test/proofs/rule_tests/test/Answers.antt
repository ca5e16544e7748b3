use Rattle.std.proofs.Common.{List, arith}
use Rattle.std.specs.List.{Contains}
use Rattle.std.proofs.lemmas.List.Elements.{All-weaker}
use Rattle.std.proofs.lemmas.Result.{IfOk-weaker}
use Rattle.fsm_base.specs.declared.letters.Pair.{Pair}
use Rattle.two_level.specs.declared.rule.LangRule.{LangRule}
use Rattle.pair_test.specs.Ready.{AreTests, IsRuleTest}
use Rattle.pair_test.specs.Rules.{IsVerdictOn}
use Rattle.pair_test.specs.Tests.{placed_letters}
use Rattle.pair_test.proofs.Tested.{pair_length}
use Rattle.pair_test.proofs.rule_tests.test.Goals as goal

pub verdict-requires-clause-over : goal.verdict-requires-clause-over
verdict-requires-clause-over c =
    All-weaker (Contains c.args.pairs.now) (Contains c.in_ok-tests.tests.pairs) (λ x h. (c.in_ok-tests.ensures.pairs_are x).1 h) c.args.word.now c.requires.word

pub verdict-requires-clause-few_rules : goal.verdict-requires-clause-few_rules
verdict-requires-clause-few_rules c =
    let tests = c.in_ok-tests.tests in
    let same = pair_length (IsRuleTest (placed_letters tests.pairs)) c.args.rules.now tests.rules c.in_ok-tests.ensures.rules_are in
    omega (arith, same, c.requires.few_rules)

pub returns : goal.returns
returns c =
    IfOk-weaker c.verdict.result (λ verdict. (pairs : List Pair) (rules : List LangRule) → AreTests pairs rules c.in_ok-tests.tests → IsVerdictOn rules c.args.word.now verdict) (IsVerdictOn c.args.rules.now c.args.word.now)
    (λ verdict tells. tells c.args.pairs.now c.args.rules.now c.in_ok-tests.ensures) c.verdict.ensures
