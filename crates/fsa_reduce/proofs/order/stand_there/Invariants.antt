use Rattle.std.proofs.Common.{◌≡◌, ◌<◌, ℕ, Some, slice_get}
use Rattle.fsa_reduce.proofs.order.stand_there.Given as goal

abbrev pub invariant-loop-state : goal.invariant-loop-state
invariant-loop-state l = (state place : ℕ) → state < l.state → slice_get l.places state ≡ Some place → slice_get l.states place ≡ Some state
