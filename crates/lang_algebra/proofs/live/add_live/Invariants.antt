use Rattle.std.proofs.Common.{take}
use Rattle.fsa_rational.specs.Shapes.{Extends, ForEach}
use Rattle.lang_algebra.proofs.Alive.{EntersOne}
use Rattle.lang_algebra.proofs.live.add_live.Given as goal

abbrev pub invariant-loop-edge : goal.invariant-loop-edge
invariant-loop-edge g l = Extends l.initial.m l.m (ForEach (EntersOne l.live.found) (take l.edge-index l.edges))
