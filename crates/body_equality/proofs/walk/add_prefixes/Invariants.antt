use Rattle.std.proofs.Common.{◌≡◌, ◌++◌, drop}
use Rattle.body_equality.specs.Rows.{prefix_row}
use Rattle.body_equality.proofs.walk.add_prefixes.Given as goal

-- what was added, and what is left to add
abbrev pub invariant-prefixes : goal.invariant-prefixes
invariant-prefixes l = l.row.items ++ prefix_row (drop l.prefix-index l.prefixes) ≡ l.fn.row.items ++ prefix_row l.prefixes
