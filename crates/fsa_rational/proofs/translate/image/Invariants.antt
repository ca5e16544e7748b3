use Rattle.std.proofs.Common.{take}
use Rattle.fsa_rational.specs.Shapes.{Extends, ForEach, ImageOf}
use Rattle.fsa_rational.proofs.translate.image.Given as goal

abbrev pub invariant-loop-edge : goal.invariant-loop-edge
invariant-loop-edge g l = Extends l.initial.m l.m (ForEach (ImageOf l.rows.items) (take l.edge-index l.edge-items))
