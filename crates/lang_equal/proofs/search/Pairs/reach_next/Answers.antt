use Rattle.std.proofs.Common.{◌<◌, ◌≤◌, length, subst, arith}
use Rattle.lang_equal.specs.Pairs.{starts, IsPair, LeadsPair, IsFinalPair, SoughtFrom}
use Rattle.lang_equal.specs.declared.search.StatePair.{StatePair}
use Rattle.lang_equal.proofs.Searching.{at_of, search_adds}
use Rattle.lang_equal.proofs.Pairs.{HasNext-more, pair_words}
use Rattle.lang_equal.proofs.search.Pairs.reach_next.Goals as goal

pub loop-place-preserved : goal.loop-place-preserved
loop-place-preserved g c =
    let which = c.args.self.now.sought in
    let a = c.args.self.now.first.now in
    let b = c.args.self.now.second.now in
    let place = c.loop-place.place in
    let now = c.loop-place.search in
    let new = c.reach.new.search in
    let inside : place < length a.letters = subst (λ ls. place < length ls) c.letters-place-end.ensures.letters c.loop-place-test.true in
    let to : StatePair = record { first = c.next.result; second = c.next-in-loop-place.result } in
    let laws = pair_words which a b c.states.ensures.complete c.states-2.ensures.complete c.requires.letters in
    let letter = at_of a.letters place inside in
    let r = search_adds a.letters starts (IsPair a b) (LeadsPair a b) (IsFinalPair which a b) (SoughtFrom which a b) laws c.args.number now.reached.keys now.steps.items c.loop-place.invariant.0 c.args.pair c.loop-place.invariant.1
    place to letter.0 letter.1 (c.next.ensures.next, c.next-in-loop-place.ensures.next) (record { first = c.next.ensures.within; second = c.next-in-loop-place.ensures.within }) new.reached.keys new.steps.items c.in_ok-reach.ensures in
    (r.0, r.1, HasNext-more a b c.args.pair place to now.reached.keys new.reached.keys c.loop-place.invariant.2 r.3 (c.next.ensures.next, c.next-in-loop-place.ensures.next) r.2)

pub returns-clause-next : goal.returns-clause-next
returns-clause-next g c =
    let a = c.args.self.now.first.now in
    let past : length a.letters ≤ c.loop-place.place = subst (λ ls. length ls ≤ c.loop-place.place) c.letters-place-end.ensures.letters c.loop-place-test.false in
    λ k t inside leads. c.loop-place.invariant.2 k t (omega (arith, past, inside)) leads
