use Rattle.expr_spelling.proofs.Resolved.{resolved_mapped}
use Rattle.expr_spelling.proofs.lexicons.resolved_are_mapped.Goals as goal

pub returns : goal.returns
returns c = resolved_mapped
