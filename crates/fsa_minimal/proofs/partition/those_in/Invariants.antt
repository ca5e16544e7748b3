use Rattle.std.proofs.Common.{◌≡◌, Some, take}
use Rattle.std.specs.List.{slice_get}
use Rattle.fsa_minimal.proofs.Kept.{Keeps}
use Rattle.fsa_minimal.proofs.partition.those_in.Given as goal

abbrev pub invariant-loop-state : goal.invariant-loop-state
invariant-loop-state l = Keeps (λ s. slice_get l.class_of s ≡ Some l.class) (take l.state-index l.states) l.members.items
