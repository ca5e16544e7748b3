use Rattle.std.proofs.Common.{◌≡◌, take}
use Rattle.expr_meaning.specs.Operators.{inner}
use Rattle.pair_test.proofs.letters.letters_of.Given as goal

-- the pairs so far
abbrev pub invariant-pairs : goal.invariant-pairs
invariant-pairs l = l.letters.items ≡ inner (take l.pair-index l.pairs)
