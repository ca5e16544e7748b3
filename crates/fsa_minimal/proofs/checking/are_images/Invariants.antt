use Rattle.std.proofs.Common.{◌≡◌, ◌<◌, ℕ, Some, length}
use Rattle.std.specs.List.{slice_get}
use Rattle.fsa_minimal.specs.Images.{GoesOnAs}
use Rattle.fsa_minimal.proofs.checking.are_images.Given as goal

abbrev pub invariant-loop-state : goal.invariant-loop-state
invariant-loop-state g l = (s i : ℕ) → s < l.state → slice_get l.images s ≡ Some (Some i)
    → (s < length l.a.finals) × GoesOnAs l.a l.b l.images s i
