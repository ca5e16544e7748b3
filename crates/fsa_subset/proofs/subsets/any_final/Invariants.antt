use Rattle.std.proofs.Common.{◌≡◌, ℕ, Some, true, take}
use Rattle.std.specs.List.{Contains, slice_get}
use Rattle.fsa_subset.proofs.subsets.any_final.Given as goal

abbrev pub invariant-loop-state : goal.invariant-loop-state
invariant-loop-state l = (p : ℕ) → Contains (take l.state-index l.set) p → slice_get l.finals p ≡ Some true → ⊥
