use Rattle.std.proofs.Common.{take}
use Rattle.fsa_rational.specs.Shapes.{Extends, ComesFrom, reversed_by}
use Rattle.fsa_rational.proofs.extend.add_reversed.Given as goal

abbrev pub invariant-loop-edge : goal.invariant-loop-edge
invariant-loop-edge g l = Extends l.initial.m l.m (ComesFrom (reversed_by l.by) (take l.edge-index l.edges))
