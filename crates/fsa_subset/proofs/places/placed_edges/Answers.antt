use Rattle.std.specs.BTreeMap.{get}
use Rattle.fsa_subset.proofs.Placing.{loop_placed}
use Rattle.fsa_subset.proofs.places.placed_edges.Goals as goal

pub returns : goal.returns
returns g c =
    loop_placed c.args.letters.now (get g.L.Ord.cmp c.in_ok-places.places) c.in_ok-places.ensures c.args.edges.now c.requires.all c.loop-edge.placed.items c.loop-edge.edge-index c.loop-edge-test.false c.loop-edge.invariant
