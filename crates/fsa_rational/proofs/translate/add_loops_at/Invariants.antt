use Rattle.std.proofs.Common.{take}
use Rattle.fsa_rational.specs.Shapes.{Extends, ComesFrom, loop_at}
use Rattle.fsa_rational.proofs.translate.add_loops_at.Given as goal

abbrev pub invariant-loop-letter : goal.invariant-loop-letter
invariant-loop-letter g l = Extends l.initial.m l.m (ComesFrom (loop_at l.state) (take l.letter-index l.letters))
