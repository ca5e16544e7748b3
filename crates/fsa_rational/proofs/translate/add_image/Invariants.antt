use Rattle.std.proofs.Common.{take}
use Rattle.fsa_rational.specs.Shapes.{Extends, ComesFrom}
use Rattle.fsa_rational.proofs.translate.add_image.Given as goal

abbrev pub invariant-loop-row : goal.invariant-loop-row
invariant-loop-row g l = Extends l.initial.m l.m (ComesFrom (λ row. record { from = l.edge.from; letter = row.1; to = l.edge.to }) (take l.row-index l.row-items))
