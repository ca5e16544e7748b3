use Rattle.std.proofs.Common.{take}
use Rattle.fsa_rational.specs.Shapes.{Extends, ForEach}
use Rattle.fsa_reduce.specs.Numbering.{StandsFor}
use Rattle.fsa_reduce.proofs.merging.add_numbered.Given as goal

abbrev pub invariant-loop-edge : goal.invariant-loop-edge
invariant-loop-edge g l = Extends l.initial.m l.m (ForEach (λ f e. StandsFor l.letters e f) (take l.edge-index l.edges))
