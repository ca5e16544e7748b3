use Rattle.std.proofs.Common.{take, Some}
use Rattle.fsa_rational.proofs.TableRows.{Gathers}
use Rattle.fsa_rational.proofs.translate.kept_rows.Given as goal

abbrev pub invariant-loop-row : goal.invariant-loop-row
invariant-loop-row g l = Gathers (λ row. (row.1, Some row.0)) (take l.row-index l.table) l.rows.items
