use Rattle.std.proofs.Common.{take, Some}
use Rattle.fsa_rational.specs.Shapes.{Extends, ComesFrom}
use Rattle.lang_algebra.proofs.letters.one_letter.Given as goal

abbrev pub invariant-loop-letter : goal.invariant-loop-letter
invariant-loop-letter g l = Extends l.initial.m l.m (ComesFrom (λ x. record { from = 0; letter = Some x; to = l.end }) (take l.letter-index l.letters))
