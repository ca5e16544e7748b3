use Rattle.std.proofs.Common.{◌≡◌, length}
use Rattle.fsa_minimal.specs.Splitting.{AreClasses}
use Rattle.fsa_minimal.specs.Fewest.{ClassesAreApart}
use Rattle.fsa_minimal.proofs.refining.refined.Given as goal

abbrev pub invariant-loop-splitter : goal.invariant-loop-splitter
invariant-loop-splitter g l = record {
  bound : l.marked.bound ≡ length l.a.finals;
  count : length l.partition.class_of.items ≡ length l.a.finals;
  apart : ClassesAreApart l.a l.partition.class_of.items;
  classes : AreClasses l.partition.members.items l.partition.groups.items l.partition.sizes.items l.partition.class_of.items;
}

abbrev pub invariant-loop-inverse : goal.invariant-loop-inverse
invariant-loop-inverse g l = record {
  bound : l.marked.bound ≡ length l.a.finals;
  count : length l.partition.class_of.items ≡ length l.a.finals;
  apart : ClassesAreApart l.a l.partition.class_of.items;
  classes : AreClasses l.partition.members.items l.partition.groups.items l.partition.sizes.items l.partition.class_of.items;
}
