use Rattle.project_versions.proofs.Readying.{ReadySoFar}
use Rattle.project_versions.proofs.networks.networks_of.Given as goal

-- the networks so far
abbrev pub invariant-places : goal.invariant-places
invariant-places l = ReadySoFar l.all.items l.kept l.place l.networks.items
