use Rattle.std.proofs.Common.{◌≡◌, length}
use Rattle.project_versions.proofs.Serving.{KeptSoFar}
use Rattle.project_versions.proofs.keeping.kept_networks.Given as goal

-- what is kept at the places so far
abbrev pub invariant-places : goal.invariant-places
invariant-places l = record {
  count : length l.kept.items ≡ l.place;
  kept : KeptSoFar l.old l.networks l.new l.touched l.kept.items;
}
