use Rattle.std.proofs.Common.{◌≡◌, take}
use Rattle.replace_rules.specs.Letters.{own_table}
use Rattle.replace_rules.proofs.rows.own_rows.Given as goal

abbrev pub invariant-loop-mark : goal.invariant-loop-mark
invariant-loop-mark l = l.rows.items ≡ own_table (take l.mark-index l.marks)
