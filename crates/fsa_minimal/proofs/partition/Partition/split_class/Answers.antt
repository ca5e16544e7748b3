use Rattle.std.proofs.Common.{◌≡◌, ◌+◌, ◌↔◌, IsTrue, true, false, length, subst, inl, inr, arith}
use Rattle.std.specs.List.{Contains}
use Rattle.std.proofs.lemmas.List.{length-set}
use Rattle.fsa_minimal.specs.Splitting.{Holds, IsMoved}
use Rattle.fsa_minimal.proofs.Moving.{part_there, part_marked, part_unmarked, rest_held, moved_split}
use Rattle.fsa_minimal.proofs.partition.Partition.split_class.Goals as goal

pub add_class-requires-clause-there : goal.add_class-requires-clause-there
add_class-requires-clause-there c =
    let a = c.args.self.now in
    let is = rw (c.deref.ensures.value, c.deref-2.ensures.value) at c.in_ok-part.ensures in
    part_there a.class_of.items c.args.number c.in_ok-part.part.items (Holds a.groups.items c.args.number) (λ s. IsTrue true ↔ Contains c.args.marked.now.found s) is

pub add_class-requires-clause-held : goal.add_class-requires-clause-held
add_class-requires-clause-held c = λ s k never at. c.requires.classes.held s k at

pub returns-then-len-size-2-clause-split : goal.returns-then-len-size-2-clause-split
returns-then-len-size-2-clause-split c =
    let a = c.args.self.now in
    let b = c.add_class.new.self in
    let found = c.args.marked.now.found in
    let number = c.args.number in
    let part = c.in_ok-part.part.items in
    let is = rw (c.deref.ensures.value, c.deref-2.ensures.value) at c.in_ok-part.ensures in
    moved_split found a.class_of.items b.class_of.items number part a.groups.items b.groups.items (length a.members.items) (length b.members.items)
    (inl (part_marked found a.class_of.items number a.groups.items part c.requires.group is)) c.in_ok-add_class.ensures.moved c.in_ok-add_class.ensures.groups c.in_ok-add_class.ensures.more

pub add_class-requires-2-clause-there : goal.add_class-requires-2-clause-there
add_class-requires-2-clause-there c =
    let a = c.args.self.now in
    let is = rw (c.deref-3.ensures.value, c.deref-4.ensures.value) at c.in_ok-rest.ensures in
    part_there a.class_of.items c.args.number c.in_ok-rest.rest.items (Holds a.members.items c.args.number) (λ s. IsTrue false ↔ Contains c.args.marked.now.found s) is

pub add_class-requires-2-clause-held : goal.add_class-requires-2-clause-held
add_class-requires-2-clause-held c =
    let a = c.args.self.now in
    let found = c.args.marked.now.found in
    let number = c.args.number in
    let is_part = rw (c.deref.ensures.value, c.deref-2.ensures.value) at c.in_ok-part.ensures in
    let is_rest = rw (c.deref-3.ensures.value, c.deref-4.ensures.value) at c.in_ok-rest.ensures in
    rest_held found a.class_of.items number a.members.items c.in_ok-part.part c.in_ok-rest.rest.items c.requires.number c.requires.classes.held
    (part_marked found a.class_of.items number a.groups.items c.in_ok-part.part.items c.requires.group is_part)
    (part_unmarked found a.class_of.items number a.members.items c.in_ok-rest.rest.items c.requires.classes.held is_rest)

pub returns-clause-split : goal.returns-clause-split
returns-clause-split c =
    let a = c.args.self.now in
    let b = c.add_class-2.new.self in
    let found = c.args.marked.now.found in
    let number = c.args.number in
    let rest = c.in_ok-rest.rest.items in
    let is = rw (c.deref-3.ensures.value, c.deref-4.ensures.value) at c.in_ok-rest.ensures in
    let count = length-set a.members.items number c.in_ok-part.part in
    let one : length b.members.items ≡ length a.members.items + 1 = let m = c.in_ok-add_class-2.ensures.more in omega arith in
    moved_split found a.class_of.items b.class_of.items number rest a.groups.items b.groups.items (length a.members.items) (length b.members.items)
    (inr (part_unmarked found a.class_of.items number a.members.items rest c.requires.classes.held is)) (subst (λ n. IsMoved rest n a.class_of.items b.class_of.items) count c.in_ok-add_class-2.ensures.moved) c.in_ok-add_class-2.ensures.groups one
