use Rattle.std.proofs.Common.{◌≡◌, Some, subst, arith}
use Rattle.std.specs.List.{slice_get}
use Rattle.fsa_minimal.proofs.partition.Partition.split.Goals as goal

pub split_touched-requires-clause-groups : goal.split_touched-requires-clause-groups
split_touched-requires-clause-groups c = λ s k found at l.
    c.in_ok-touched.ensures.groups s k found (subst (λ v. slice_get v.items s ≡ Some k) c.in_ok-touched.ensures.class_of at) (let e = c.in_ok-touched.ensures.count in omega arith)
