use Rattle.std.proofs.Common.{◌-◌, length, take, drop, rules}
use Rattle.std.specs.Ordering.{is_lt, is_le}
use Rattle.std.proofs.lemmas.List.{take_rest}
use Rattle.std.proofs.lemmas.List.Sorted.{IsPartitionPoint-from_clause, IsNonDecreasingBy-take, IsNonDecreasingBy-drop}
use Rattle.fsa_rational.proofs.RowsAt.{index, rising, split_lt, split_le, rows_at_is, compares_itself}
use Rattle.fsa_rational.proofs.rows.rows_at.Goals as goal

pub returns : goal.returns
returns g c =
    let R = g.K.Ord.cmp in
    let o = g.met.K.Ord.total in
    let key = c.args.key in
    let rows = c.args.rows.now in
    let i = c.partition_point.result in
    let m = length rows - i in
    let up = rising R o key rows c.requires in
    let up_rest = IsNonDecreasingBy-take (index R o key) m (drop i rows) (IsNonDecreasingBy-drop (index R o key) i rows up) in
    rows_at_is R o key g.met.K.Letter.equal_is_same (compares_itself R o) rows (take m (drop i rows)) i c.partition_point-2.result (take_rest rows i)
    c.partition_point.ensures.bound c.partition_point-2.ensures.bound
    (IsPartitionPoint-from_clause (λ row. is_lt (R row.0 key)) _ _ c.partition_point.ensures.partitioned (split_lt R o key rows up) (λ a r q k. search rules))
    (IsPartitionPoint-from_clause (λ row. is_le (R row.0 key)) _ _ c.partition_point-2.ensures.partitioned (split_le R o key (take m (drop i rows)) up_rest) (λ a r q k. search rules))
