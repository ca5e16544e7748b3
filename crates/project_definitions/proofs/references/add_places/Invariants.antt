use Rattle.std.proofs.Common.{◌≡◌, ◌++◌, drop}
use Rattle.std.specs.List.{flat_map}
use Rattle.expr_leaves.specs.Leaves.{seen}
use Rattle.project_definitions.specs.Referring.{place_in}
use Rattle.project_definitions.proofs.references.add_places.Given as goal

-- the places of the other leaves are left
abbrev pub invariant-leaves : goal.invariant-leaves
invariant-leaves l =
    l.places.items ++ flat_map (place_in l.count) (seen (drop l.leaf-index l.leaves)) ≡ l.fn.places.items ++ flat_map (place_in l.count) (seen l.leaves)
