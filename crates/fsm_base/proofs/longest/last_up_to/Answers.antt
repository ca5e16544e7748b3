use Rattle.std.proofs.Common.{rules}
use Rattle.std.proofs.lemmas.List.Sorted.{IsPartitionPoint-from_clause}
use Rattle.std.specs.Cmp.Lexicographic.{slice_cmp}
use Rattle.std.specs.Ordering.{nat_cmp, is_le}
use Rattle.fsm_base.proofs.SortedLemmas.{IsPartitionedBy-texts, last_from_point}
use Rattle.fsm_base.proofs.longest.last_up_to.Goals as goal

pub returns : goal.returns
returns c =
    let entries = c.args.entries.now in
    let bytes = c.args.bytes.now in
    last_from_point entries bytes c.requires c.partition_point-count.result c.partition_point-count.ensures.bound
    (IsPartitionPoint-from_clause (λ e. is_le (slice_cmp nat_cmp e.text bytes)) entries _ c.partition_point-count.ensures.partitioned
    (IsPartitionedBy-texts entries bytes c.requires)
    (λ a r f' called. search rules))
    _ c.checked_sub.ensures
