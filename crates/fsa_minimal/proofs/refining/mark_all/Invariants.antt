use Rattle.std.proofs.Common.{◌≡◌, length, take}
use Rattle.fsa_minimal.proofs.Apart.{AreSources}
use Rattle.fsa_minimal.proofs.refining.mark_all.Given as goal

abbrev pub invariant-loop-state : goal.invariant-loop-state
invariant-loop-state g l = record {
  bound : l.marked.bound ≡ length l.a.finals;
  sources : AreSources l.a l.inverse.place (take l.state-index l.states) l.marked.found;
}
