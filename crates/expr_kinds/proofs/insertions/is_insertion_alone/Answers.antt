use Rattle.expr_kinds.proofs.Inserts.{none_alone}
use Rattle.expr_kinds.proofs.insertions.is_insertion_alone.Goals as goal

pub returns-in_default-3 : goal.returns-in_default-3
returns-in_default-3 c = none_alone c.args.maps.now c.in_default.len_at_least
