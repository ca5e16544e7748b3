use Rattle.std.proofs.Common.{◌≡◌, ◌++◌, map, take}
use Rattle.network_algebra.specs.Crossing.{crossed}
use Rattle.network_algebra.proofs.crossing.add_pairs.Given as goal

abbrev pub invariant-loop-y : goal.invariant-loop-y
invariant-loop-y l = l.pairs.items ≡ l.initial.pairs.items ++ map (λ y. crossed l.x y) (take l.y-index l.ys)
