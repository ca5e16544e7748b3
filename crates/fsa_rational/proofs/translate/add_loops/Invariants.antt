use Rattle.fsa_rational.specs.Shapes.{Extends, LoopsBelow}
use Rattle.fsa_rational.proofs.translate.add_loops.Given as goal

abbrev pub invariant-loop-state : goal.invariant-loop-state
invariant-loop-state g l = Extends l.initial.m l.m (LoopsBelow l.state l.letters)
