use Rattle.pair_lines.proofs.Numbering.{HasFront}
use Rattle.pair_lines.proofs.numbers.numbers_of.Given as goal

-- the symbols so far
abbrev pub invariant-symbols : goal.invariant-symbols
invariant-symbols l = HasFront l.alphabet l.symbol-index l.numbers
