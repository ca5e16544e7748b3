use Rattle.std.proofs.Common.{◌+◌, None, leb, rules}
use Rattle.std.proofs.lemmas.List.Sorted.{IsPartitionedBy-leb, IsPartitionPoint-from_clause}
use Rattle.std.specs.Ordering.{is_lt}
use Rattle.lookup_walk.specs.declared.moves.Move.{Move}
use Rattle.lookup_walk.specs.Sorted.{spot_cmp}
use Rattle.lookup_walk.proofs.Spots.{states_rise, before_next}
use Rattle.lookup_walk.proofs.Rows.{Parts-same}
use Rattle.lookup_walk.proofs.table.first_behind.Goals as goal

pub returns-in_default : goal.returns-in_default
returns-in_default c =
    let xs = c.args.moves.now in
    let q = c.args.state in
    let parted = IsPartitionPoint-from_clause (λ (m : Move). leb m.at.state q) _ _ c.partition_point.ensures.partitioned (IsPartitionedBy-leb (λ (m : Move). m.at.state) xs q (states_rise xs c.requires))
    (λ a r f called. (search rules, search rules)) in
    (c.partition_point.ensures.bound, Parts-same (λ m. leb m.at.state q) (λ m. is_lt (spot_cmp m.at (record { state = q + 1; read = None }))) xs c.partition_point.result (λ m. before_next q m.at) parted)
