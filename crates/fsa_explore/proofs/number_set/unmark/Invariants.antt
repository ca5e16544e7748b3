use Rattle.std.proofs.Common.{◌≡◌, ℕ, Some, true, length, drop}
use Rattle.std.specs.List.{slice_get, Contains}
use Rattle.fsa_explore.proofs.number_set.unmark.Given as goal

abbrev pub invariant-loop-number : goal.invariant-loop-number
invariant-loop-number l =
    (length l.marks ≡ length l.initial.marks) × ((k : ℕ) → slice_get l.marks k ≡ Some true → Contains (drop l.number-index l.numbers) k)
