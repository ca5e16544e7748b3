use Rattle.std.proofs.Common.{◌≡◌, take}
use Rattle.replace_rules.specs.Letters.{right_table}
use Rattle.replace_rules.proofs.rows.right_rows.Given as goal

abbrev pub invariant-loop-mark : goal.invariant-loop-mark
invariant-loop-mark l = l.rows.items ≡ right_table l.side (take l.mark-index l.marks)
