use Rattle.std.proofs.Common.{◌≡◌, ◌++◌, drop}
use Rattle.std.specs.List.{flat_map}
use Rattle.expr_leaves.specs.Leaves.{seen}
use Rattle.name_resolution.proofs.leaves.add_each.Given as goal
use Rattle.name_resolution.specs.Leaves.{leaves_in_pair, pairs_behind}

-- what was found, and what is in the other items
abbrev pub invariant-pairs : goal.invariant-pairs
invariant-pairs g l = seen l.found.items ++ flat_map leaves_in_pair (pairs_behind (drop l.pair-index l.pairs)) ≡ seen l.fn.found.items ++ flat_map leaves_in_pair (pairs_behind l.pairs)
