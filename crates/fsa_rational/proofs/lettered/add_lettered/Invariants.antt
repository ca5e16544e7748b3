use Rattle.std.proofs.Common.{take}
use Rattle.fsa_rational.specs.Shapes.{Extends, ForEach, IsLettered}
use Rattle.fsa_rational.proofs.lettered.add_lettered.Given as goal

abbrev pub invariant-loop-edge : goal.invariant-loop-edge
invariant-loop-edge g l = Extends l.initial.m l.m (ForEach (IsLettered l.from) (take l.edge-index l.edges))
