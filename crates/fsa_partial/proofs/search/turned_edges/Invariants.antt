use Rattle.std.proofs.Common.{◌≡◌, take, map}
use Rattle.fsa_partial.specs.Search.{turned}
use Rattle.fsa_partial.proofs.search.turned_edges.Given as goal

abbrev pub invariant-loop-edge : goal.invariant-loop-edge
invariant-loop-edge g l = l.turned_edges.items ≡ map turned (take l.edge-index l.edges)
