use Rattle.std.proofs.Common.{◌≡◌, length, sym, ap, subst, Some, true, ◌∙◌}
use Rattle.std.specs.List.{slice_get}
use Rattle.fsa_reduce.proofs.Trims.{live, turned_within}
use Rattle.fsa_reduce.proofs.trimming.kept_states.Goals as goal

pub close-requires : goal.close-requires
close-requires g c =
    let a = c.args.a.now in
    let back = c.in_ok-turned_edges.field-0.items in
    let rows = c.in_ok-backwards.backwards in
    let bound : c.add_finals.new.states.bound ≡ length a.finals = c.in_ok-add_finals.ensures.grows.bound ∙ c.in_ok-add.ensures.ok.grows.bound ∙ ap (λ m. m.bound) c.in_ok-kept.ensures ∙ c.states.ensures.number in
    rw bound (turned_within a c.edges.ensures.formed back rows (rw c.edges.ensures.edges at c.in_ok-turned_edges.ensures) (rw c.deref.ensures.value at c.in_ok-backwards.ensures))

pub returns-clause-live : goal.returns-clause-live
returns-clause-live g c =
    let a = c.args.a.now in
    let back = c.in_ok-turned_edges.field-0.items in
    let rows = c.in_ok-backwards.backwards in
    let found = c.add_finals.new.states.found in
    λ state w path.
    c.in_ok-close.ensures.ok.all state
    (live a back rows (rw c.edges.ensures.edges at c.in_ok-turned_edges.ensures) (rw c.deref.ensures.value at c.in_ok-backwards.ensures) found
    (λ k is. c.in_ok-add_finals.ensures.all k (subst (λ fs. slice_get fs k ≡ Some true) (sym c.finals.ensures.finals) is)) path)
