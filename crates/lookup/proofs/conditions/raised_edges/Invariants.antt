use Rattle.std.proofs.Common.{◌≡◌, map, take}
use Rattle.lookup.specs.Obeyed.{raised}
use Rattle.lookup.proofs.conditions.raised_edges.Given as goal

abbrev pub invariant-loop-edge : goal.invariant-loop-edge
invariant-loop-edge l = l.found.items ≡ map raised (take l.edge-index l.edges)
