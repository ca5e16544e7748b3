use Rattle.std.proofs.Common.{◌≡◌, length, sym, subst, ◌∙◌}
use Rattle.fsa_explore.specs.Alike.{IsSpread}
use Rattle.fsa_explore.specs.Explored.{IsExplored}
use Rattle.fsa_explore.proofs.Spreading.{explored_apart, explored_by_class}
use Rattle.fsa_explore.proofs.alike.explore_by_class.Goals as goal

pub returns-then-is_counting-clause-built : goal.returns-then-is_counting-clause-built
returns-then-is_counting-clause-built g c =
    let A = g.A.LazyAutomaton in
    let a = c.args.automaton.now in
    let start = c.args.start.now in
    let next = c.in_ok-built.built.next.items in
    let finals = c.in_ok-built.built.finals.items in
    let firsts = c.args.classes.now.firsts.items in
    let of_places = c.args.classes.now.of_places.items in
    let same : length firsts ≡ length of_places =
    sym (c.len.ensures ∙ c.args.classes.now.firsts.ok.0) ∙ c.if-len.true ∙ c.len-2.ensures ∙ c.args.classes.now.of_places.ok.0 in
    explored_apart (A.is_state a) (A.leads a) (A.is_final_state a) start next finals of_places (rw c.deref.ensures.value at (c.is_counting.ensures c.if-is_counting.true))
    (subst (λ n. IsExplored (A.is_state a) (A.leads a) (A.is_final_state a) n start next finals) (c.requires.count ∙ same) c.in_ok-built.ensures.built)

pub returns-clause-built : goal.returns-clause-built
returns-clause-built g c =
    let A = g.A.LazyAutomaton in
    let a = c.args.automaton.now in
    let start = c.args.start.now in
    let next = c.in_ok-built.built.next.items in
    let finals = c.in_ok-built.built.finals.items in
    let firsts = c.args.classes.now.firsts.items in
    let of_places = c.args.classes.now.of_places.items in
    explored_by_class (A.is_state a) (A.leads a) (A.is_final_state a) (length firsts) start next finals of_places c.in_ok-next.next.items c.requires.within
    (subst (λ n. IsSpread next n of_places (length finals) c.in_ok-next.next.items) (c.len-3.ensures ∙ c.args.classes.now.firsts.ok.0) (rw c.deref-2.ensures.value at c.in_ok-next.ensures))
    (subst (λ n. IsExplored (A.is_state a) (A.leads a) (A.is_final_state a) n start next finals) c.requires.count c.in_ok-built.ensures.built)
