use Rattle.std.proofs.Common.{take}
use Rattle.fsa_rational.specs.Shapes.{Extends, ComesFrom}
use Rattle.network_algebra.proofs.optional.add_edges.Given as goal

abbrev pub invariant-loop-edge : goal.invariant-loop-edge
invariant-loop-edge g l = Extends l.initial.m l.m (ComesFrom (λ e. e) (take l.edge-index l.edges))
