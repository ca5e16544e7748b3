use Rattle.std.proofs.Common.{◌≡◌, take, map}
use Rattle.std.specs.BTreeMap.{get}
use Rattle.fsa_subset.specs.Placed.{at_place}
use Rattle.fsa_subset.proofs.places.placed_edges.Given as goal

abbrev pub invariant-loop-edge : goal.invariant-loop-edge
invariant-loop-edge g l = l.placed.items ≡ map (at_place (get g.L.Ord.cmp l.places)) (take l.edge-index l.edges)
