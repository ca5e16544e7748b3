use Rattle.std.proofs.Common.{◌≡◌, take}
use Rattle.fsa_rational.specs.Shapes.{Extends, ForEach}
use Rattle.fsa_reduce.proofs.cutting.add_within.Given as goal

abbrev pub invariant-loop-edge : goal.invariant-loop-edge
invariant-loop-edge g l = Extends l.initial.m l.m (ForEach (λ x e. e ≡ x) (take l.edge-index l.edges))
