use Rattle.std.proofs.Common.{◌≡◌, ltb, rules, ◌∙◌}
use Rattle.std.proofs.lemmas.List.Sorted.{searchable_from_sorted, IsPartitionedBy-ltb, IsPartitionPoint-from_clause}
use Rattle.std.specs.Ordering.{is_lt}
use Rattle.lookup_walk.specs.Sorted.{spot_cmp}
use Rattle.lookup_walk.proofs.Spots.{rank, spot_total, before_rank}
use Rattle.lookup_walk.proofs.Rows.{Parts-same}
use Rattle.lookup_walk.proofs.table.first_from.Goals as goal

pub returns : goal.returns
returns c =
    let xs = c.args.moves.now in
    let spot = c.args.spot in
    let sorted = searchable_from_sorted spot_total (λ move. move.at) xs spot c.requires in
    let parted = IsPartitionPoint-from_clause (λ m. ltb (rank spot m) 1) _ _ c.partition_point.ensures.partitioned (IsPartitionedBy-ltb (rank spot) xs 1 sorted)
    (λ a r q called. (let h : r ≡ is_lt (spot_cmp a.0.now.at spot) = search rules in h ∙ before_rank _, search rules)) in
    (c.partition_point.ensures.bound, Parts-same (λ m. ltb (rank spot m) 1) (λ m. is_lt (spot_cmp m.at spot)) xs c.partition_point.result (λ m. before_rank (spot_cmp m.at spot)) parted)
