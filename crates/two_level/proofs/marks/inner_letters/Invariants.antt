use Rattle.std.proofs.Common.{◌≡◌, take}
use Rattle.expr_meaning.specs.Operators.{inner}
use Rattle.two_level.proofs.marks.inner_letters.Given as goal

abbrev pub invariant-loop-pair : goal.invariant-loop-pair
invariant-loop-pair l = l.letters.items ≡ inner (take l.pair-index l.pairs)
