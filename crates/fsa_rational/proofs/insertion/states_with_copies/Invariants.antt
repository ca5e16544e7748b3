use Rattle.std.proofs.Common.{◌≡◌, ◌++◌, ◌*◌, false, replicate}
use Rattle.fsa_rational.proofs.insertion.states_with_copies.Given as goal

abbrev pub invariant-loop-state : goal.invariant-loop-state
invariant-loop-state g l = l.finals.items ≡ l.a.finals ++ replicate (l._state * l.count) false
