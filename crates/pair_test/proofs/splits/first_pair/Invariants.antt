use Rattle.std.proofs.Common.{◌≡◌, ◌<◌, ℕ, Some}
use Rattle.std.specs.List.{slice_get}
use Rattle.fsm_base.specs.declared.letters.Pair.{Pair}
use Rattle.pair_test.specs.Marks.{IsMarked}
use Rattle.pair_test.specs.Tests.{IsBadFor}
use Rattle.pair_test.proofs.splits.first_pair.Given as goal

-- no pair so far is bad
abbrev pub invariant-pairs : goal.invariant-pairs
invariant-pairs l = (k : ℕ) → k < l.place → (x : Pair) → slice_get l.word k ≡ Some x → IsBadFor l.rule (Some x) (IsMarked l.holding k) → ⊥
