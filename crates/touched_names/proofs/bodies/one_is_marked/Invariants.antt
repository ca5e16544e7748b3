use Rattle.std.proofs.Common.{◌↔◌, drop, length}
use Rattle.std.specs.List.{flat_map}
use Rattle.expr_leaves.specs.Leaves.{seen}
use Rattle.project_definitions.specs.Referring.{place_in}
use Rattle.touched_names.specs.Places.{HasMarked}
use Rattle.touched_names.proofs.bodies.one_is_marked.Given as goal

-- none so far is, so it turns on the others
abbrev pub invariant-leaves : goal.invariant-leaves
invariant-leaves l = HasMarked l.marks (flat_map (place_in (length l.marks)) (seen (drop l.leaf-index l.leaves))) ↔ HasMarked l.marks (flat_map (place_in (length l.marks)) (seen l.leaves))
