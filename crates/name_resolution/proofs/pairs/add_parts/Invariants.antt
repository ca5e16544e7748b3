use Rattle.std.proofs.Common.{◌≡◌, ◌++◌, drop, map}
use Rattle.std.specs.List.{flat_map}
use Rattle.expr_leaves.specs.Leaves.{seen}
use Rattle.name_resolution.proofs.pairs.add_parts.Given as goal
use Rattle.name_resolution.specs.Leaves.{pairs_behind, pairs_in_part}
use Rattle.grammar_pairs.specs.Plain.{part_of}

-- what was found, and what is in the other items
abbrev pub invariant-parts : goal.invariant-parts
invariant-parts g l = pairs_behind l.found.items ++ flat_map pairs_in_part (map part_of (seen (drop l.part-index l.parts))) ≡ pairs_behind l.fn.found.items ++ flat_map pairs_in_part (map part_of (seen l.parts))
