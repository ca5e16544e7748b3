use Rattle.std.proofs.Common.{map, take}
use Rattle.twolc_expressions.specs.Views.{pair_view}
use Rattle.pair_lines.specs.Strings.{letter_of}
use Rattle.pair_lines.proofs.Numbering.{AreNumbered}
use Rattle.pair_lines.proofs.numbers.by_numbers.Given as goal

-- the pairs so far
abbrev pub invariant-pairs : goal.invariant-pairs
invariant-pairs l = AreNumbered l.fn.numbers l.fn.pairs (map (λ p. letter_of (pair_view p)) (take l.pair-index l.string)) l.word.items
