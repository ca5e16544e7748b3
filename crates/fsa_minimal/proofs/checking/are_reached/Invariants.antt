use Rattle.std.proofs.Common.{◌≤◌, length}
use Rattle.fsa_minimal.specs.Fewest.{AreReachedBelow}
use Rattle.fsa_minimal.proofs.checking.are_reached.Given as goal

abbrev pub invariant-loop-state : goal.invariant-loop-state
invariant-loop-state g l = record {
  there : l.reached ≤ length l.a.finals;
  reached : AreReachedBelow l.a l.reached;
}
