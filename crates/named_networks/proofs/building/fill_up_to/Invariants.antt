use Rattle.project_store.proofs.Networks.{BuiltSoFar}
use Rattle.named_networks.proofs.building.fill_up_to.Given as goal

-- the networks so far
abbrev pub invariant-order : goal.invariant-order
invariant-order l = BuiltSoFar l.project l.order l.place l.initial.built.items l.next-index l.built.items
