use Rattle.std.proofs.Common.{take}
use Rattle.fsa_rational.specs.Shapes.{Extends, ForEach, PreimageOf}
use Rattle.fsa_rational.proofs.translate.preimage.Given as goal

abbrev pub invariant-loop-edge : goal.invariant-loop-edge
invariant-loop-edge g l = Extends l.initial.m l.m (ForEach (PreimageOf l.rows.items) (take l.edge-index l.edge-items))
