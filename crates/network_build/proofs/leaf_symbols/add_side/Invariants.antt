use Rattle.std.proofs.Common.{take}
use Rattle.network_build.specs.Gathered.{AddsLeaves}
use Rattle.network_build.proofs.Gathering.{side_leaves}
use Rattle.network_build.proofs.leaf_symbols.add_side.Given as goal

-- the symbols so far
abbrev pub invariant-side : goal.invariant-side
invariant-side l = AddsLeaves l.fn.symbols l.symbols (side_leaves (take l.piece-index l.side))
