use Rattle.std.proofs.Common.{length}
use Rattle.fsa_minimal.specs.Splitting.{AreClasses, IsSplit}
use Rattle.fsa_minimal.proofs.partition.Partition.split_touched.Given as goal

abbrev pub invariant-loop-number : goal.invariant-loop-number
invariant-loop-number l = record {
  split : IsSplit l.marked.found l.fn.self.class_of.items l.self.class_of.items l.fn.self.groups.items l.self.groups.items (length l.fn.self.members.items) (length l.self.members.items);
  classes : AreClasses l.self.members.items l.self.groups.items l.self.sizes.items l.self.class_of.items;
}
