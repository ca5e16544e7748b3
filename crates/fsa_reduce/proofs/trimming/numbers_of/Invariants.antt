use Rattle.std.proofs.Common.{◌≡◌, ℕ, Some, length, take}
use Rattle.std.specs.List.{slice_get, Contains}
use Rattle.fsa_reduce.proofs.trimming.numbers_of.Given as goal

abbrev pub invariant-loop-number : goal.invariant-loop-number
invariant-loop-number l = record {
  count : length l.numbers.items ≡ l.states;
  only : (state number : ℕ) → slice_get l.numbers.items state ≡ Some (Some number) → slice_get l.kept.found number ≡ Some state;
  all : (state : ℕ) → Contains (take l.number l.kept.found) state → (number : ℕ) × (slice_get l.numbers.items state ≡ Some (Some number));
}
