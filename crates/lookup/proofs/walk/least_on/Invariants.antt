use Rattle.std.proofs.Common.{take}
use Rattle.lookup.specs.Walks.{IsLeast}
use Rattle.lookup.proofs.Least.{OnEdges}
use Rattle.lookup.proofs.walk.least_on.Given as goal

abbrev pub invariant-edges : goal.invariant-edges
invariant-edges l = IsLeast (OnEdges l.floor (take l.edge-index l.edges)) l.least
