use Rattle.std.proofs.Common.{◌≡◌, length, take}
use Rattle.expr_leaves.specs.Leaves.{seen}
use Rattle.project_store.specs.Building.{AreNamesAmong}
use Rattle.project_store.proofs.building.names_among.Given as goal

-- the names of the leaves so far
abbrev pub invariant-leaves : goal.invariant-leaves
invariant-leaves l = record {
  count : length l.names.items ≡ l.count;
  names : AreNamesAmong (seen (take l.leaf-index l.leaves)) l.names.items;
}
