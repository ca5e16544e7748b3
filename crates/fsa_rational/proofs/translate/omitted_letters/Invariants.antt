use Rattle.std.proofs.Common.{take, None}
use Rattle.fsa_rational.proofs.TableRows.{Gathers}
use Rattle.fsa_rational.proofs.translate.omitted_letters.Given as goal

abbrev pub invariant-loop-row : goal.invariant-loop-row
invariant-loop-row g l = Gathers (λ x. (x, None)) (take l.row-index l.table) l.letters.items
