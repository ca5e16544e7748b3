use Rattle.std.proofs.Common.{◌≡◌, length}
use Rattle.fsa_reduce.proofs.epsilon.is_cheap.Given as goal

abbrev pub invariant-loop-state : goal.invariant-loop-state
invariant-loop-state g l = l.reached.bound ≡ length l.a.finals
