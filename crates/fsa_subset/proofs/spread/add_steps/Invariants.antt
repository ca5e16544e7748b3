use Rattle.std.proofs.Common.{◌≡◌, take}
use Rattle.std.specs.List.{Contains}
use Rattle.fsa_subset.specs.Sets.{IsSettled, IsTargetSet}
use Rattle.fsa_subset.specs.Partial.{AddsSteps}
use Rattle.fsa_subset.proofs.spread.add_steps.Given as goal

abbrev pub invariant-places : goal.invariant-places
invariant-places l =
    (l.reached.bound ≡ l.initial.reached.bound)
    × AddsSteps (IsSettled l.rows l.initial.reached.bound) (IsTargetSet l.rows l.moves) l.number (Contains (take l.place-index l.places)) l.initial.found l.found
