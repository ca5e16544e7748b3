use Rattle.std.proofs.Common.{take}
use Rattle.pair_test.specs.Ready.{IsRuleTest, Pairwise}
use Rattle.pair_test.proofs.making.rule_tests.Given as goal

-- the rules so far
abbrev pub invariant-rules : goal.invariant-rules
invariant-rules l = Pairwise (IsRuleTest l.letters) (take l.rule-index l.rules) l.tests.items
