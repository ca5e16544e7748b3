use Rattle.std.proofs.Common.{◌≡◌, take}
use Rattle.network_algebra.specs.Crossing.{crossed_pairs}
use Rattle.network_algebra.proofs.crossing.pairs_of.Given as goal

abbrev pub invariant-loop-x : goal.invariant-loop-x
invariant-loop-x l = l.pairs.items ≡ crossed_pairs (take l.x-index l.xs) l.ys
