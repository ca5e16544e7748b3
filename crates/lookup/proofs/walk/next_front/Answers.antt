use Rattle.std.proofs.Common.{[], ◌∷◌, ◌++◌, ap, subst, sym, ◌∙◌}
use Rattle.fsa_explore.specs.Targets.{AreWithin}
use Rattle.lookup.specs.Walks.{IsFront}
use Rattle.lookup.proofs.Fronts.{front_next, enters_from}
use Rattle.lookup.proofs.walk.next_front.Goals as goal

pub add_targets-requires : goal.add_targets-requires
add_targets-requires c =
    let bound = ap (λ m. m.bound) c.clear.ensures in
    λ e h. rw bound (c.requires.within e (c.requires.leaving e h))

pub close-requires : goal.close-requires
close-requires c =
    let bound = c.in_ok-add_targets.ensures.ok.grows.bound ∙ ap (λ m. m.bound) c.clear.ensures in
    subst (λ n. AreWithin c.args.rows.now n) (sym bound) c.requires.within

pub returns-clause-front : goal.returns-clause-front
returns-clause-front c =
    let rows = c.args.rows.now in
    let byte = c.args.byte in
    let a = c.clear.new.self in
    let b = c.add_targets.new.states in
    λ front are text is. subst (λ ks. IsFront rows (text ++ byte ∷ []) ks) (sym (c.in_ok-next.ensures.items ∙ c.found.ensures.found))
    (front_next rows front byte a b c.close.new.states (ap (λ m. m.found) c.clear.ensures) (enters_from rows front byte c.args.leaving.now a b are c.in_ok-add_targets.ensures.ok) c.in_ok-close.ensures.ok text is)
