use Rattle.std.proofs.Common.{◌≡◌, ◌+◌, ◌≤◌, length, drop}
use Rattle.std.specs.List.{flat_map}
use Rattle.project_model.specs.Gathered.{gathered}
use Rattle.name_resolution.specs.Symbols.{symbol_beside}
use Rattle.expr_leaves.specs.Leaves.{seen}
use Rattle.project_sources.specs.Limits.{most_symbols}
use Rattle.project_model.proofs.symbols.add_symbols.Given as goal

-- the symbols of the other leaves are left
abbrev pub invariant-leaves : goal.invariant-leaves
invariant-leaves l = record {
  same : gathered l.table (flat_map (symbol_beside l.names) (seen (drop l.leaf-index l.leaves))) ≡ gathered l.fn.table (flat_map (symbol_beside l.names) (seen l.leaves));
  short : length l.table ≤ most_symbols + 1;
}
