use Rattle.std.proofs.Common.{◌≡◌, take}
use Rattle.std.specs.List.{filter_map}
use Rattle.replace_directed.specs.Marked.{upper_row}
use Rattle.replace_directed.proofs.middles.upper_rows.Given as goal

abbrev pub invariant-loop-mark : goal.invariant-loop-mark
invariant-loop-mark l = l.rows.items ≡ filter_map upper_row (take l.mark-index l.marks)
