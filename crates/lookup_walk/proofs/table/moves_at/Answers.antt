use Rattle.std.proofs.Common.{◌≡◌, ◌-◌, length, ltb, leb, take, drop, rules, refl, ◌∙◌}
use Rattle.std.proofs.lemmas.List.{take_rest}
use Rattle.std.proofs.lemmas.List.Sorted.{searchable_from_sorted, IsPartitionedBy-ltb, IsPartitionedBy-leb, IsPartitionPoint-from_clause, IsNonDecreasingBy-drop, IsNonDecreasingBy-take}
use Rattle.std.specs.Ordering.{is_lt, is_le}
use Rattle.lookup_walk.specs.Sorted.{spot_cmp}
use Rattle.lookup_walk.proofs.Spots.{rank, spot_total, before_rank, up_to_rank, moves_out}
use Rattle.lookup_walk.proofs.table.moves_at.Goals as goal

pub returns : goal.returns
returns c =
    let xs = c.args.moves.now in
    let i = c.partition_point.result in
    let m = length xs - i in
    let spot = c.args.spot in
    let sorted = searchable_from_sorted spot_total (λ move. move.at) xs spot c.requires in
    let sorted_rest = IsNonDecreasingBy-take (rank spot) m (drop i xs) (IsNonDecreasingBy-drop (rank spot) i xs sorted) in
    moves_out spot xs (take m (drop i xs)) xs i c.partition_point-2.result (take_rest xs i)
    refl c.partition_point.ensures.bound c.partition_point-2.ensures.bound
    (IsPartitionPoint-from_clause (λ y. ltb (rank spot y) 1) _ _ c.partition_point.ensures.partitioned (IsPartitionedBy-ltb (rank spot) xs 1 sorted)
    (λ a r q called. (let h : r ≡ is_lt (spot_cmp a.0.now.at spot) = search rules in h ∙ before_rank _, search rules)))
    (IsPartitionPoint-from_clause (λ y. leb (rank spot y) 1) _ _ c.partition_point-2.ensures.partitioned (IsPartitionedBy-leb (rank spot) (take m (drop i xs)) 1 sorted_rest)
    (λ a r q called. (let h : r ≡ is_le (spot_cmp a.0.now.at spot) = search rules in h ∙ up_to_rank _, search rules)))
