use Rattle.std.proofs.Common.{◌≡◌, take}
use Rattle.replace_rules.specs.Letters.{left_table}
use Rattle.replace_rules.proofs.rows.left_rows.Given as goal

abbrev pub invariant-loop-mark : goal.invariant-loop-mark
invariant-loop-mark l = l.rows.items ≡ left_table l.side (take l.mark-index l.marks)
