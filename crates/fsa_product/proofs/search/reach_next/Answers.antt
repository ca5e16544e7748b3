use Rattle.std.proofs.Common.{◌<◌, length, subst}
use Rattle.fsa_product.proofs.Searching.{at_of, search_adds, HasNext-more}
use Rattle.fsa_product.proofs.search.reach_next.Goals as goal

pub next-requires-clause-state : goal.next-requires-clause-state
next-requires-clause-state g c = c.loop-place.invariant.0.within c.args.number c.args.state c.loop-place.invariant.1

pub loop-place-preserved : goal.loop-place-preserved
loop-place-preserved g c =
    let d = c.args.a.now in
    let place = c.loop-place.place in
    let inside : place < length d.letters = subst (λ ls. place < length ls) c.letters-place-end.ensures.letters c.loop-place-test.true in
    let letter = at_of d.letters place inside in
    let t = c.next.result in
    let now = c.loop-place.search in
    let new = c.reach.new.search in
    let r = search_adds d c.args.number now.reached now.steps.items c.loop-place.invariant.0 c.args.state c.loop-place.invariant.1 place t letter.0 letter.1 c.next.ensures.next c.next.ensures.within new.reached new.steps.items c.in_ok-reach.ensures in
    (r.0, r.1, HasNext-more d c.args.state place t now.reached.found new.reached.found c.loop-place.invariant.2 r.3 c.next.ensures.next r.2)
