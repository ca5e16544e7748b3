use Rattle.std.proofs.Common.{◌≡◌, ◌<◌, ◌≤◌, [], ◌∷◌, ◌++◌, Some, length, get_or, refl, ap, subst, sym, arith, ◌∙◌}
use Rattle.std.proofs.lemmas.List.{take_all, length-set}
use Rattle.std.proofs.lemmas.List.Elements.{All-push, All-same}
use Rattle.std.specs.List.{slice_get}
use Rattle.std.proofs.lemmas.Option.{slice_get_within, slice_get-get_or, slice_get_read}
use Rattle.fsa_minimal.specs.Splitting.{HoldThese}
use Rattle.fsa_minimal.proofs.Moving.{classes_same, group_more}
use Rattle.fsa_minimal.proofs.partition.Partition.group.Goals as goal
use Rattle.fsa_minimal.proofs.partition.Partition.group.Goals.{then-is_empty+in_ok-push, else-is_empty}

pub loop-state-preserved : goal.loop-state-preserved
loop-state-preserved c =
    let a = c.args.self.now in
    let b = c.loop-state.self in
    let found = c.args.marked.now.found in
    let items = c.found-state-items.result.now in
    let i = c.loop-state.state-index in
    let x = get_or items i 0 in
    let k = c.index-class.result.now in
    let inside : i < length found = rw c.found-state-items.ensures.found at c.loop-state-test.true in
    let at : slice_get found i ≡ Some x = subst (λ xs. slice_get xs i ≡ Some x) c.found-state-items.ensures.found (slice_get-get_or items i 0 c.loop-state-test.true) in
    let same : get_or found i 0 ≡ x = ap (λ ks. get_or ks i 0) (sym c.found-state-items.ensures.found) in
    let is_class : b.class_of.items ≡ a.class_of.items = ap (λ v. v.items) c.loop-state.invariant.class_of in
    let there : x < length b.class_of.items = let w = c.found-state-items.ensures.bounded.within i 0 inside in let n = c.requires.bound in let e = ap length is_class in omega arith in
    let of_x : slice_get a.class_of.items x ≡ Some k = subst (λ xs. slice_get xs x ≡ Some k) is_class (slice_get_read b.class_of.items (length b.class_of.items) x k refl there c.index-class.ensures) in
    let h = c.requires.classes.held x k of_x in
    let class_there : k < length a.members.items = slice_get_within a.members.items k h.0 h.1 in
    let group_there : k < length b.groups.items = let g = c.requires.classes.groups_count in let n = c.loop-state.invariant.count in omega arith in
    let old = c.index_mut.result.now in
    record {
      class_of = c.loop-state.invariant.class_of;
      members = c.loop-state.invariant.members;
      sizes = c.loop-state.invariant.sizes;
      count = length-set b.groups.items k c.push-in-loop-state.new.self ∙ c.loop-state.invariant.count;
      touched = elim c.if-is_empty.branch [
        | then-is_empty+in_ok-push w ↦
            rw w.touched-is (All-same (λ class. class < length a.members.items) w.push.new.self.items (c.loop-state.touched.items ++ k ∷ []) w.in_ok-push.ensures.items
            (All-push (λ class. class < length a.members.items) c.loop-state.touched.items k c.loop-state.invariant.touched class_there))
        | else-is_empty w ↦ rw w.touched-is c.loop-state.invariant.touched
      ];
      groups = group_more b.groups.items a.class_of.items found (length a.members.items) i x k old c.push-in-loop-state.new.self at of_x
          (slice_get_read b.groups.items (length b.groups.items) k old refl group_there c.index_mut.ensures.value) c.in_ok-push-2.ensures.items c.loop-state.invariant.groups;
    }

pub returns-clause-groups : goal.returns-clause-groups
returns-clause-groups c =
    let found = c.args.marked.now.found in
    let i = c.loop-state.state-index in
    let past : length found ≤ i = rw c.found-state-items.ensures.found at c.loop-state-test.false in
    subst (λ xs. HoldThese c.loop-state.self.groups.items c.args.self.now.class_of.items xs (length c.args.self.now.members.items)) (take_all i found past) c.loop-state.invariant.groups

pub returns-clause-classes : goal.returns-clause-classes
returns-clause-classes c =
    let a = c.args.self.now in
    let b = c.loop-state.self in
    classes_same a.members.items a.groups.items b.groups.items a.sizes.items a.class_of.items b.members.items b.sizes.items b.class_of.items
    (ap (λ v. v.items) c.loop-state.invariant.members) c.loop-state.invariant.count (ap (λ v. v.items) c.loop-state.invariant.sizes) (ap (λ v. v.items) c.loop-state.invariant.class_of) c.requires.classes
