use Rattle.std.proofs.Common.{arith}
use Rattle.project_edits.proofs.Parted.{passes_all, passes_more, passes_none}
use Rattle.project_edits.proofs.lines.split_lines.Goals as goal

pub lines-init : goal.lines-init
lines-init c = passes_none _

pub returns-in_err-rest : goal.returns-in_err-rest
returns-in_err-rest c = rw c.from_residual.ensures (passes_all _ _ _ _ c.lines.invariant c.in_err-rest.ensures (omega arith))

pub lines-preserved : goal.lines-preserved
lines-preserved c = passes_more _ _ _ _ c.lines.invariant c.in_ok-rest.ensures
