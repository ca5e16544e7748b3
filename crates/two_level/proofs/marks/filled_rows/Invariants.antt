use Rattle.std.proofs.Common.{◌≡◌, ◌++◌, map, take}
use Rattle.network_algebra.specs.Networks.{all_letters}
use Rattle.two_level.specs.Marks.{letter_row, place_row}
use Rattle.two_level.proofs.marks.filled_rows.Given as goal

abbrev pub invariant-letters : goal.invariant-letters
invariant-letters l = l.rows.items ≡ map letter_row (take l.letter-index l.letter-items)

abbrev pub invariant-fillings : goal.invariant-fillings
invariant-fillings l = l.rows.items ≡ map letter_row (all_letters l.pairs) ++ map place_row (take l.filling-index l.fillings)
