use Rattle.project_store.proofs.Networks.{BuiltSoFar}
use Rattle.project_store.proofs.building.network_at.Given as goal

-- the networks so far
abbrev pub invariant-order : goal.invariant-order
invariant-order l = BuiltSoFar l.project l.order l.place l.initial.built.items l.next-index l.built.items
