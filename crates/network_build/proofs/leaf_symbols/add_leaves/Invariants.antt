use Rattle.std.proofs.Common.{take}
use Rattle.expr_leaves.specs.Leaves.{seen}
use Rattle.network_build.specs.Gathered.{AddsLeaves}
use Rattle.network_build.proofs.leaf_symbols.add_leaves.Given as goal

-- the symbols so far
abbrev pub invariant-leaves : goal.invariant-leaves
invariant-leaves l = AddsLeaves l.fn.symbols l.symbols (seen (take l.leaf-index l.leaves))
