use Rattle.std.proofs.Common.{◌≡◌, ◌<◌, Some, true}
use Rattle.std.specs.List.{slice_get}
use Rattle.fsa_explore.specs.Marks.{Adds}
use Rattle.fsa_reduce.proofs.trimming.add_finals.Given as goal

abbrev pub invariant-loop-state : goal.invariant-loop-state
invariant-loop-state l = Adds l.initial.states l.states (λ k. (k < l.state) × (slice_get l.finals k ≡ Some true))
