use Rattle.std.proofs.Common.{◌≡◌, ◌<◌, All, length, take}
use Rattle.fsa_minimal.specs.Splitting.{HoldThese}
use Rattle.fsa_minimal.proofs.partition.Partition.group.Given as goal

abbrev pub invariant-loop-state : goal.invariant-loop-state
invariant-loop-state l = record {
  class_of : l.self.class_of ≡ l.fn.self.class_of;
  members : l.self.members ≡ l.fn.self.members;
  sizes : l.self.sizes ≡ l.fn.self.sizes;
  count : length l.self.groups.items ≡ length l.fn.self.groups.items;
  touched : All (λ class. class < length l.fn.self.members.items) l.touched.items;
  groups : HoldThese l.self.groups.items l.fn.self.class_of.items (take l.state-index l.marked.found) (length l.fn.self.members.items);
}
