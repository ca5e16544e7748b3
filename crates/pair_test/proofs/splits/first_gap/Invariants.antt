use Rattle.std.proofs.Common.{◌<◌, ℕ, None}
use Rattle.pair_test.specs.Marks.{IsMarked}
use Rattle.pair_test.specs.Tests.{IsBadFor}
use Rattle.pair_test.proofs.splits.first_gap.Given as goal

-- no gap so far is bad
abbrev pub invariant-gaps : goal.invariant-gaps
invariant-gaps l = (k : ℕ) → k < l.place → IsBadFor l.rule None (IsMarked l.holding k) → ⊥
