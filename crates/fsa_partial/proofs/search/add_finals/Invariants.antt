use Rattle.std.proofs.Common.{◌≡◌, Some, true}
use Rattle.std.specs.List.{slice_get}
use Rattle.fsa_explore.specs.Marks.{Grows}
use Rattle.fsa_partial.proofs.search.add_finals.Given as goal

abbrev pub invariant-loop-state : goal.invariant-loop-state
invariant-loop-state l = Grows l.initial.states l.states (λ s. slice_get l.finals s ≡ Some true)
