use Rattle.std.proofs.Common.{◌≡◌, take}
use Rattle.replace_rules.specs.Letters.{pair_table}
use Rattle.replace_rules.proofs.rows.pair_rows.Given as goal

abbrev pub invariant-loop-mark : goal.invariant-loop-mark
invariant-loop-mark l = l.rows.items ≡ pair_table (take l.mark-index l.marks)
