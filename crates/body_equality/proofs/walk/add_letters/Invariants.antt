use Rattle.std.proofs.Common.{◌≡◌, ◌++◌, drop}
use Rattle.body_equality.specs.Rows.{letter_row}
use Rattle.body_equality.proofs.walk.add_letters.Given as goal

-- what was added, and what is left to add
abbrev pub invariant-letters : goal.invariant-letters
invariant-letters l = l.row.items ++ letter_row (drop l.letter-index l.letters) ≡ l.fn.row.items ++ letter_row l.letters
