use Rattle.std.proofs.Common.{◌≡◌, ◌++◌, drop, map}
use Rattle.std.specs.List.{flat_map}
use Rattle.expr_leaves.specs.Leaves.{seen}
use Rattle.name_resolution.proofs.leaves.add_pairs.Given as goal
use Rattle.name_resolution.specs.Leaves.{leaves_in_pair}
use Rattle.grammar_pairs.specs.Plain.{pair_of}

-- what was found, and what is in the other items
abbrev pub invariant-pairs : goal.invariant-pairs
invariant-pairs g l = seen l.found.items ++ flat_map leaves_in_pair (map pair_of (drop l.pair-index l.pairs)) ≡ seen l.fn.found.items ++ flat_map leaves_in_pair (map pair_of l.pairs)
