use Rattle.std.proofs.Common.{ap}
use Rattle.fsa_minimal.proofs.Moving.{classes_same}
use Rattle.fsa_minimal.proofs.partition.Partition.clear.Goals as goal

pub returns-clause-classes : goal.returns-clause-classes
returns-clause-classes c =
    let a = c.args.self.now in
    let b = c.loop-number.self in
    classes_same a.members.items a.groups.items b.groups.items a.sizes.items a.class_of.items b.members.items b.sizes.items b.class_of.items
    (ap (λ v. v.items) c.loop-number.invariant.members) c.loop-number.invariant.groups (ap (λ v. v.items) c.loop-number.invariant.sizes) (ap (λ v. v.items) c.loop-number.invariant.class_of) c.requires.classes
