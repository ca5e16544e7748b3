use Rattle.std.proofs.Common.{◌≡◌, ◌++◌, take, flat_map}
use Rattle.std.specs.String.{string_bytes}
use Rattle.interlinear.specs.Blocks.{padded, text_in}
use Rattle.interlinear.proofs.columns.push_cells.Given as goal

-- the cells so far
abbrev pub invariant-cells : goal.invariant-cells
invariant-cells l = string_bytes l.block ≡ string_bytes l.fn.block ++ flat_map (padded (text_in l.fn.row)) (take l.cell-index l.front)
