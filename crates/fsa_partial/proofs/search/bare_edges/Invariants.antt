use Rattle.std.proofs.Common.{◌≡◌, take, map}
use Rattle.fsa_partial.specs.Search.{bare}
use Rattle.fsa_partial.proofs.search.bare_edges.Given as goal

abbrev pub invariant-loop-edge : goal.invariant-loop-edge
invariant-loop-edge g l = l.bare_edges.items ≡ map bare (take l.edge-index l.edges)
