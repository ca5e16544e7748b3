use Rattle.std.proofs.Common.{take}
use Rattle.fsa_rational.specs.Shapes.{Extends, ForEach}
use Rattle.fst_algebra.specs.Substituted.{CarriesImage}
use Rattle.fst_algebra.proofs.substitution.substituted.Given as goal

abbrev pub invariant-loop-edge : goal.invariant-loop-edge
invariant-loop-edge g l = Extends l.initial.m l.m (ForEach (CarriesImage (g.S.Substitution.image l.substitution)) (take l.edge-index l.edge-items))
