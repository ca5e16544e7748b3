use Rattle.std.proofs.Common.{◌≡◌, length, ap, refl, replicate, ◌∙◌}
use Rattle.std.proofs.lemmas.List.{length-replicate}
use Rattle.std.proofs.lemmas.List.Elements.{All-same, All-replicate}
use Rattle.fsa_minimal.proofs.Moving.{classes_new}
use Rattle.fsa_minimal.proofs.partition.Partition.new.Goals as goal

pub returns-clause-classes : goal.returns-clause-classes
returns-clause-classes c =
    classes_new c.in_ok-numbers_below.field-0 c.new.result c.new-members.result.items c.new-groups.result.items c.new-sizes.result.items
    c.push.new.self.items c.push-2.new.self.items c.push-3.new.self.items c.in_ok-class_of.class_of.items c.args.bound c.args.bound c.new-members.ensures.items c.new-groups.ensures.items c.new-sizes.ensures.items
    c.in_ok-push.ensures.items c.in_ok-push-2.ensures.items c.in_ok-push-3.ensures.items c.in_ok-numbers_below.ensures
    (let e = c.in_ok-class_of.ensures.items_if_clones_equal (λ y h. h) in ap length e ∙ length-replicate c.args.bound 0)
    (All-same (λ k. k ≡ 0) c.in_ok-class_of.class_of.items (replicate c.args.bound 0) (c.in_ok-class_of.ensures.items_if_clones_equal (λ y h. h)) (All-replicate (λ k. k ≡ 0) c.args.bound 0 refl))
