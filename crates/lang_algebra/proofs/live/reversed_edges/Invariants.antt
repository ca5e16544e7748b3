use Rattle.std.proofs.Common.{◌≡◌, map, take}
use Rattle.lang_algebra.specs.Live.{back}
use Rattle.lang_algebra.proofs.live.reversed_edges.Given as goal

abbrev pub invariant-loop-edge : goal.invariant-loop-edge
invariant-loop-edge g l = l.turned.items ≡ map back (take l.edge-index l.edges)
