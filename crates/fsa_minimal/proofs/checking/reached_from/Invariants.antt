use Rattle.std.proofs.Common.{◌≤◌, length}
use Rattle.fsa_minimal.specs.Fewest.{AreReachedBelow}
use Rattle.fsa_minimal.proofs.checking.reached_from.Given as goal

abbrev pub invariant-loop-place : goal.invariant-loop-place
invariant-loop-place g l = record {
  more : l.reached ≤ l.below;
  there : l.below ≤ length l.a.finals;
  reached : AreReachedBelow l.a l.below;
}
