use Rattle.std.proofs.Common.{◌≡◌, ◌+◌, ◌*◌, length}
use Rattle.fsa_rational.specs.Shapes.{Extends, PutInBelow}
use Rattle.fsa_rational.proofs.insertion.add_copies.Given as goal

abbrev pub invariant-loop-state : goal.invariant-loop-state
invariant-loop-state g l = record {
  at : l.by ≡ l.bound + l.state * length l.put.finals;
  copies : Extends l.initial.m l.m (PutInBelow l.put l.bound l.state);
}
