use Rattle.std.proofs.Common.{◌+◌, ltb, leb, Some, None, sym, ◌∙◌}
use Rattle.std.specs.Ordering.{is_lt}
use Rattle.lookup_walk.specs.Sorted.{spot_cmp}
use Rattle.lookup_walk.specs.declared.moves.Spot.{Spot}
use Rattle.lookup_walk.proofs.Spots.{rank, before_rank, up_to_rank, before_least, before_next}
use Rattle.lookup_walk.proofs.Rows.{Parts-same, row_is}
use Rattle.lookup_walk.proofs.table.row_of.Goals as goal

pub returns : goal.returns
returns c =
    let xs = c.args.moves.now in
    let q = c.args.state in
    let epsilon : Spot = record { state = q; read = None } in
    let first = c.first_from-first.ensures in
    let reads = c.first_from-reads.ensures in
    let end = c.first_behind-end.ensures in
    row_is xs q c.first_from-first.result c.first_from-reads.result c.first_behind-end.result first.0 reads.0 end.0
    (Parts-same (λ m. is_lt (spot_cmp m.at epsilon)) (λ m. ltb (rank epsilon m) 1) xs c.first_from-first.result (λ m. sym (before_rank (spot_cmp m.at epsilon))) first.1)
    (Parts-same (λ m. is_lt (spot_cmp m.at (record { state = q; read = Some (record { 0 = 0 }) }))) (λ m. leb (rank epsilon m) 1) xs c.first_from-reads.result
    (λ m. sym (up_to_rank (spot_cmp m.at epsilon)) ∙ sym (before_least q m.at)) reads.1)
    (Parts-same (λ m. is_lt (spot_cmp m.at (record { state = q + 1; read = None }))) (λ m. leb m.at.state q) xs c.first_behind-end.result (λ m. sym (before_next q m.at)) end.1)
