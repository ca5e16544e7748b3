use Rattle.std.proofs.Common.{◌≡◌, length}
use Rattle.fsa_minimal.proofs.Apart.{AreFinalsBelow}
use Rattle.fsa_minimal.proofs.refining.final_states.Given as goal

abbrev pub invariant-loop-state : goal.invariant-loop-state
invariant-loop-state g l = record {
  bound : l.marked.bound ≡ length l.a.finals;
  finals : AreFinalsBelow l.a.finals l.state l.marked.found;
}
