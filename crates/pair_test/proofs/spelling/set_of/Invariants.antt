use Rattle.std.proofs.Common.{◌↔◌, take}
use Rattle.std.specs.List.{Contains}
use Rattle.fsm_base.specs.declared.letters.Pair.{Pair}
use Rattle.pair_test.proofs.spelling.set_of.Given as goal

-- the pairs so far
abbrev pub invariant-pairs : goal.invariant-pairs
invariant-pairs l = (x : Pair) → Contains l.set.keys x ↔ Contains (take l.pair-index l.pairs) x
