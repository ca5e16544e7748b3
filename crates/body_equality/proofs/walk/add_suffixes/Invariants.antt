use Rattle.std.proofs.Common.{◌≡◌, ◌++◌, drop}
use Rattle.body_equality.specs.Rows.{suffix_row}
use Rattle.body_equality.proofs.walk.add_suffixes.Given as goal

-- what was added, and what is left to add
abbrev pub invariant-suffixes : goal.invariant-suffixes
invariant-suffixes l = l.row.items ++ suffix_row (drop l.suffix-index l.suffixes) ≡ l.fn.row.items ++ suffix_row l.suffixes
