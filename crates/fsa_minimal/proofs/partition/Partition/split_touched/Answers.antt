use Rattle.std.proofs.Common.{◌<◌, length, get_or, arith}
use Rattle.fsa_minimal.proofs.Moving.{IsSplit-same, IsSplit-then}
use Rattle.fsa_minimal.proofs.partition.Partition.split_touched.Goals as goal

pub loop-number-init : goal.loop-number-init
loop-number-init c = record {
  split = IsSplit-same c.args.marked.now.found c.args.self.now.class_of.items c.args.self.now.groups.items (length c.args.self.now.members.items);
  classes = c.requires.classes;
}

pub split_class-requires-clause-bound : goal.split_class-requires-clause-bound
split_class-requires-clause-bound c = let e = c.requires.bound in let f = c.loop-number.invariant.split.count in omega arith

pub split_class-requires-clause-number : goal.split_class-requires-clause-number
split_class-requires-clause-number c =
    let l = c.requires.touched c.loop-number.number-index 0 c.loop-number-test.true in let m = c.loop-number.invariant.split.more in omega arith

pub split_class-requires-clause-group : goal.split_class-requires-clause-group
split_class-requires-clause-group c = λ s found at.
    let i = c.loop-number.number-index in
    let n = get_or c.args.touched.now i 0 in
    let l : n < length c.args.self.now.members.items = c.requires.touched i 0 c.loop-number-test.true in
    c.loop-number.invariant.split.groups n s (c.requires.groups s n found (c.loop-number.invariant.split.kept s n at l) l)

pub loop-number-preserved : goal.loop-number-preserved
loop-number-preserved c =
    let a = c.args.self.now in
    let b = c.loop-number.self in
    let d = c.split_class.new.self in
    record {
      split = IsSplit-then c.args.marked.now.found a.class_of.items b.class_of.items d.class_of.items a.groups.items b.groups.items d.groups.items (length a.members.items) (length b.members.items) (length d.members.items)
          c.loop-number.invariant.split c.in_ok-split_class.ensures.split;
      classes = c.in_ok-split_class.ensures.classes;
    }
