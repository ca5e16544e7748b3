use Rattle.std.proofs.Common.{◌≡◌, ◌++◌, drop, map}
use Rattle.std.specs.List.{flat_map}
use Rattle.expr_leaves.specs.Leaves.{seen}
use Rattle.name_resolution.proofs.leaves.add_sets.Given as goal
use Rattle.grammar_pairs.specs.Plain.{set_of}

-- what was found, and what is in the other items
abbrev pub invariant-sets : goal.invariant-sets
invariant-sets g l = seen l.found.items ++ flat_map (λ s. s.symbols) (map set_of (drop l.set-index l.sets)) ≡ seen l.fn.found.items ++ flat_map (λ s. s.symbols) (map set_of l.sets)
