use Rattle.std.proofs.Common.{length, ap, subst, ◌∙◌}
use Rattle.std.specs.List.{Contains}
use Rattle.fsa_reduce.proofs.Ordering.{moved_below, start_there, alike_by_place}
use Rattle.fsa_reduce.proofs.classes.classes_by_place.Goals as goal

pub classes_from_end-requires-clause-within : goal.classes_from_end-requires-clause-within
classes_from_end-requires-clause-within c = λ e h.
    let same = ap length c.deref.ensures.value ∙ c.in_ok-finals.ensures.count in
    rw same (moved_below (length c.args.finals.now) c.args.places.now c.args.edges.now c.in_ok-edges.edges.items c.requires.order c.in_ok-edges.ensures e (subst (λ es. Contains es e) c.deref-2.ensures.value h))

pub returns-clause-start : goal.returns-clause-start
returns-clause-start c =
    let alike = rw (c.deref.ensures.value, c.deref-2.ensures.value) at c.in_ok-found.ensures.alike in
    let is = rw c.deref-3.ensures.value at c.in_ok-of_states.ensures in
    rw is (start_there c.args.finals.now c.in_ok-finals.finals.items c.args.edges.now c.in_ok-edges.edges.items c.args.places.now c.in_ok-found.found.of_states.items c.in_ok-found.found.count
    c.requires.order c.requires.within c.in_ok-finals.ensures.count c.in_ok-finals.ensures.finals c.in_ok-edges.ensures alike c.in_ok-found.ensures.start)

pub returns-clause-alike : goal.returns-clause-alike
returns-clause-alike c =
    let alike = rw (c.deref.ensures.value, c.deref-2.ensures.value) at c.in_ok-found.ensures.alike in
    let is = rw c.deref-3.ensures.value at c.in_ok-of_states.ensures in
    rw is (alike_by_place c.args.finals.now c.in_ok-finals.finals.items c.args.edges.now c.in_ok-edges.edges.items c.args.places.now c.in_ok-found.found.of_states.items c.in_ok-found.found.count
    c.requires.order c.requires.within c.in_ok-finals.ensures.count c.in_ok-finals.ensures.finals c.in_ok-edges.ensures alike)
