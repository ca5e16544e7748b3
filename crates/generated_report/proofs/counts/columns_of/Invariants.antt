use Rattle.std.proofs.Common.{◌≡◌, ◌≤◌, ◌*◌, ◌^◌, take}
use Rattle.std.specs.List.{sum_by}
use Rattle.generated_report.proofs.counts.columns_of.Given as goal

-- the columns so far
abbrev pub invariant-told : goal.invariant-told
invariant-told l = record {
  sum : l.columns ≡ sum_by (λ one. one.columns) (take l.one-index l.told);
  few : l.columns ≤ l.one-index * 2 ^ 64;
}
