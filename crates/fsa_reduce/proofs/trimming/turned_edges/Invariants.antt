use Rattle.std.proofs.Common.{◌≡◌, map, take}
use Rattle.fsa_reduce.specs.Trimmed.{turned}
use Rattle.fsa_reduce.proofs.trimming.turned_edges.Given as goal

abbrev pub invariant-loop-edge : goal.invariant-loop-edge
invariant-loop-edge g l = l.turned_edges.items ≡ map turned (take l.edge-index l.edges)
