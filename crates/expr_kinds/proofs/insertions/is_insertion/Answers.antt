use Rattle.expr_kinds.proofs.Inserts.{no_one_group}
use Rattle.expr_kinds.proofs.insertions.is_insertion.Goals as goal

pub returns-in_default-2 : goal.returns-in_default-2
returns-in_default-2 c = no_one_group c.args.groups.now c.in_default.len_at_least
