use Rattle.std.proofs.Common.{map, ap, ◌∙◌}
use Rattle.std.proofs.lemmas.List.{take_all}
use Rattle.lookup.specs.Tree.{reversed}
use Rattle.lookup.proofs.GraphPaths.{are_turned}
use Rattle.lookup.proofs.tree.reversed_rows.Goals as goal

pub returns : goal.returns
returns g c =
    are_turned c.args.edges.now c.loop-edge.others.items c.in_ok-rows.rows
    (c.loop-edge.invariant ∙ ap (map reversed) (take_all c.loop-edge.edge-index c.args.edges.now c.loop-edge-test.false)) (rw c.deref.ensures.value at c.in_ok-rows.ensures)
