use Rattle.touched_names.proofs.Marking.{AreBelow}
use Rattle.touched_names.proofs.places.marked_places.Given as goal

-- the marked places so far
abbrev pub invariant-marks : goal.invariant-marks
invariant-marks l = AreBelow l.marks l.place l.places.items
