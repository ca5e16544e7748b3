use Rattle.std.proofs.Common.{◌≡◌, ◌++◌, drop}
use Rattle.expr_leaves.specs.Leaves.{seen}
use Rattle.expr_leaves.proofs.listing.add_all.Given as goal

abbrev pub invariant-leaves : goal.invariant-leaves
invariant-leaves g l = seen l.found.items ++ drop l.leaf-index l.leaves ≡ seen l.fn.found.items ++ l.leaves
