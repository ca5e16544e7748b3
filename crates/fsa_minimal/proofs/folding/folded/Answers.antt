use Rattle.std.proofs.Common.{◌≡◌, ◌<◌, All, length, subst, sym, ap, arith}
use Rattle.std.proofs.lemmas.List.Elements.{All-same}
use Rattle.fsa_minimal.proofs.Moving.{classes_within}
use Rattle.fsa_minimal.proofs.folding.folded.Goals as goal

pub add_row-requires-clause-within : goal.add_row-requires-clause-within
add_row-requires-clause-within g c =
    let p = c.args.partition.now in
    let numbers = c.loop-met.met.numbers.items in
    let n : length numbers ≡ length p.members.items = let e = c.loop-met.invariant.4 in let f = c.in_ok-number_of.ensures.count in let v = c.in_ok-vec.ensures.len in let w = c.len.ensures in omega arith in
    All-same (λ k. k < length numbers) c.class_of-classes.result.now p.class_of.items c.class_of-classes.ensures
    (subst (λ m. All (λ k. k < m) p.class_of.items) (sym n) (classes_within p.members.items p.groups.items p.sizes.items p.class_of.items c.requires.classes))

pub images_of-requires : goal.images_of-requires
images_of-requires g c =
    let p = c.args.partition.now in
    let numbers = c.deref.result.now in
    let d = ap length c.deref.ensures.value in
    let n : length numbers ≡ length p.members.items = let e = c.loop-met.invariant.4 in let f = c.in_ok-number_of.ensures.count in let v = c.in_ok-vec.ensures.len in let w = c.len.ensures in omega arith in
    All-same (λ k. k < length numbers) c.class_of-classes.result.now p.class_of.items c.class_of-classes.ensures
    (subst (λ m. All (λ k. k < m) p.class_of.items) (sym n) (classes_within p.members.items p.groups.items p.sizes.items p.class_of.items c.requires.classes))
