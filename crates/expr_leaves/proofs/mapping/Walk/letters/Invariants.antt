use Rattle.std.proofs.Common.{◌≡◌, map, take}
use Rattle.expr_leaves.proofs.mapping.Walk.letters.Given as goal

-- the leaves so far
abbrev pub invariant-leaves : goal.invariant-leaves
invariant-leaves g l = l.found.items ≡ map (g.M.LeafMap.image l.self.images.now) (take l.leaf-index l.leaves)
