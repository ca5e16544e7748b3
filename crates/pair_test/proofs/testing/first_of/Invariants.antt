use Rattle.std.proofs.Common.{ℕ, take}
use Rattle.std.specs.List.{Contains}
use Rattle.pair_test.specs.Tests.{IsBrokenBy}
use Rattle.pair_test.specs.declared.ready.RuleTest.{RuleTest}
use Rattle.pair_test.proofs.testing.first_of.Given as goal

-- no rule so far is broken
abbrev pub invariant-rules : goal.invariant-rules
invariant-rules l = (t : RuleTest) → Contains (take l.number l.rules) t → (at : ℕ) → IsBrokenBy l.spelled.word.now t at → ⊥
