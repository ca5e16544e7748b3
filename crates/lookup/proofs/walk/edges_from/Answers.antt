use Rattle.std.proofs.Common.{get_or}
use Rattle.std.proofs.lemmas.List.{get_or_default}
use Rattle.lookup.proofs.Fronts.{from_none, from_more, from_all}
use Rattle.lookup.proofs.walk.edges_from.Goals as goal

pub nodes-init : goal.nodes-init
nodes-init c = rw c.new-edges.ensures.items (from_none c.args.rows.now c.args.front.now)

pub nodes-preserved : goal.nodes-preserved
nodes-preserved c =
    let front = c.args.front.now in
    let i = c.nodes.node-index in
    let node = get_or front i 0 in
    rw c.in_ok-extend_from_slice.ensures.items
    (from_more c.args.rows.now front i node c.out.result.now c.nodes.edges.items c.nodes-test.true (get_or_default front i 0 node c.nodes-test.true) c.out.ensures c.nodes.invariant)

pub returns : goal.returns
returns c = from_all c.args.rows.now c.args.front.now c.nodes.node-index c.nodes.edges.items c.nodes-test.false c.nodes.invariant
