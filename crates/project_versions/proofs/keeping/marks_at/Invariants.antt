use Rattle.std.proofs.Common.{◌≡◌, length, take}
use Rattle.project_versions.proofs.Serving.{AreMarkedIn}
use Rattle.project_versions.proofs.keeping.marks_at.Given as goal

-- the marks of the places so far
abbrev pub invariant-places : goal.invariant-places
invariant-places l = record {
  count : length l.marks.items ≡ l.count;
  marks : AreMarkedIn l.count (take l.place-index l.places) l.marks.items;
}
