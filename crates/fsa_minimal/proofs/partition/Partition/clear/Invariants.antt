use Rattle.std.proofs.Common.{◌≡◌, length}
use Rattle.fsa_minimal.proofs.partition.Partition.clear.Given as goal

abbrev pub invariant-loop-number : goal.invariant-loop-number
invariant-loop-number l = record {
  class_of : l.self.class_of ≡ l.fn.self.class_of;
  members : l.self.members ≡ l.fn.self.members;
  sizes : l.self.sizes ≡ l.fn.self.sizes;
  groups : length l.self.groups.items ≡ length l.fn.self.groups.items;
}
