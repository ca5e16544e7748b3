use Rattle.std.proofs.Common.{◌≡◌, take, map}
use Rattle.lookup.specs.Tree.{reversed}
use Rattle.lookup.proofs.tree.reversed_rows.Given as goal

abbrev pub invariant-loop-edge : goal.invariant-loop-edge
invariant-loop-edge g l = l.others.items ≡ map reversed (take l.edge-index l.edges)
