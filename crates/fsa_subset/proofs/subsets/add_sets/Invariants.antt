use Rattle.std.proofs.Common.{◌≡◌}
use Rattle.fsa_explore.specs.Explored.{AddsRow}
use Rattle.fsa_subset.specs.Sets.{IsSettled, IsTargetSet}
use Rattle.fsa_subset.proofs.subsets.add_sets.Given as goal

abbrev pub invariant-loop-place : goal.invariant-loop-place
invariant-loop-place l =
    (l.states.bound ≡ l.initial.states.bound) × AddsRow (IsSettled l.rows l.initial.states.bound) (IsTargetSet l.rows l.moves) l.place l.initial.found l.found
