use Rattle.std.proofs.Common.{◌≡◌, take}
use Rattle.network_sets.specs.Split.{kept_table}
use Rattle.network_sets.proofs.parts.kept_rows.Given as goal

abbrev pub invariant-loop-letter : goal.invariant-loop-letter
invariant-loop-letter l = l.rows.items ≡ kept_table (take l.letter-index l.letters)
