use Rattle.project_store.proofs.Networks.{PartsSoFar}
use Rattle.project_store.proofs.building.parts_at.Given as goal

-- the parts of the places so far
abbrev pub invariant-places : goal.invariant-places
invariant-places l = PartsSoFar l.names l.built l.place l.parts.items
