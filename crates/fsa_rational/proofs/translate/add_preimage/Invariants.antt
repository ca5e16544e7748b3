use Rattle.std.proofs.Common.{take, Some}
use Rattle.fsa_rational.specs.Shapes.{Extends, ComesFrom}
use Rattle.fsa_rational.proofs.translate.add_preimage.Given as goal

abbrev pub invariant-loop-row : goal.invariant-loop-row
invariant-loop-row g l = Extends l.initial.m l.m (ComesFrom (λ row. record { from = l.edge.from; letter = Some row.1; to = l.edge.to }) (take l.row-index l.row-items))
