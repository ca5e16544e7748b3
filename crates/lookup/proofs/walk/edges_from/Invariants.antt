use Rattle.std.proofs.Common.{take}
use Rattle.lookup.specs.Walks.{AreFrom}
use Rattle.lookup.proofs.walk.edges_from.Given as goal

abbrev pub invariant-nodes : goal.invariant-nodes
invariant-nodes l = AreFrom l.rows (take l.node-index l.front) l.edges.items
