use Rattle.std.proofs.Common.{◌≡◌, length, subst, arith}
use Rattle.fsa_minimal.specs.Splitting.{IsMoved}
use Rattle.fsa_minimal.proofs.Moving.{Holds-pushed, classes_added}
use Rattle.fsa_minimal.proofs.partition.Partition.add_class.Goals as goal

pub returns-clause-groups : goal.returns-clause-groups
returns-clause-groups c = Holds-pushed c.args.self.now.groups.items c.push-2.new.self.items _ c.in_ok-push-2.ensures.items

pub returns-clause-classes : goal.returns-clause-classes
returns-clause-classes c =
    let a = c.args.self.now in
    let n : c.len-class.result ≡ length a.members.items = omega arith in
    let m = subst (λ k. IsMoved c.args.part.items k a.class_of.items c.move_all.new.class_of.items) n (subst (λ p. IsMoved p c.len-class.result a.class_of.items c.move_all.new.class_of.items) c.deref.ensures.value c.move_all.ensures) in
    classes_added c.args.part a.members.items a.groups.items _ a.sizes.items c.args.number _ _ a.class_of.items c.move_all.new.class_of.items
    c.requires.groups c.requires.sizes c.requires.held m
    c.push-3.new.self.items c.push-2.new.self.items c.push.new.self.items c.in_ok-push-3.ensures.items c.in_ok-push-2.ensures.items c.in_ok-push.ensures.items
