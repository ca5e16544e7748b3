use Rattle.std.proofs.Common.{◌≡◌, ◌≢◌, Some, None, ltb, rules, ap, ◌∙◌}
use Rattle.std.proofs.lemmas.List.Sorted.{searchable_from_sorted, IsPartitionedBy-ltb, IsPartitionPoint-from_clause}
use Rattle.std.specs.Ordering.{is_lt}
use Rattle.lookup_walk.specs.declared.moves.Move.{Move}
use Rattle.lookup_walk.specs.Sorted.{spot_cmp}
use Rattle.lookup_walk.proofs.Spots.{rank, spot_total, before_rank}
use Rattle.lookup_walk.proofs.Single.{alone_in}
use Rattle.lookup_walk.proofs.table.only_at.Goals as goal

pub returns-in_default-first : goal.returns-in_default-first
returns-in_default-first c =
    let xs = c.args.moves.now in
    let spot = c.args.spot in
    let sorted = searchable_from_sorted spot_total (λ move. move.at) xs spot c.requires in
    let at : c.in-Some.first.now.at ≡ c.args.spot = search rules in
    alone_in spot xs c.in-Some.others.now c.in-Some.first.now c.partition_point.result sorted c.in-Some.ensures.cases.0 c.partition_point.ensures.bound
    (IsPartitionPoint-from_clause (λ y. ltb (rank spot y) 1) _ _ c.partition_point.ensures.partitioned (IsPartitionedBy-ltb (rank spot) xs 1 sorted)
    (λ a r q called. (let h : r ≡ is_lt (spot_cmp a.0.now.at spot) = search rules in h ∙ before_rank _, search rules)))
    at (λ x is. (let e : None ≡ Some x = c.in_default-first.ensures.value ∙ is in cc))

pub returns : goal.returns
returns c =
    let xs = c.args.moves.now in
    let spot = c.args.spot in
    let sorted = searchable_from_sorted spot_total (λ move. move.at) xs spot c.requires in
    let at : c.in-Some.first.now.at ≡ c.args.spot = search rules in
    let other : c.in-Some-first.next.now.at ≢ c.args.spot = search rules in
    alone_in spot xs c.in-Some.others.now c.in-Some.first.now c.partition_point.result sorted c.in-Some.ensures.cases.0 c.partition_point.ensures.bound
    (IsPartitionPoint-from_clause (λ y. ltb (rank spot y) 1) _ _ c.partition_point.ensures.partitioned (IsPartitionedBy-ltb (rank spot) xs 1 sorted)
    (λ a r q called. (let h : r ≡ is_lt (spot_cmp a.0.now.at spot) = search rules in h ∙ before_rank _, search rules)))
    at (λ x is same. (let e : Some c.in-Some-first.next.now ≡ Some x = c.in-Some-first.ensures.value ∙ is in let f : c.in-Some-first.next.now ≡ x = cc in other (ap (λ (m : Move). m.at) f ∙ same)))
