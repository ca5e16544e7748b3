use Rattle.std.proofs.Common.{◌≡◌, ◌<◌, [], ◌∷◌, length, get_or, refl, subst, arith}
use Rattle.std.proofs.lemmas.Option.{slice_get-get_or}
use Rattle.fsa_explore.specs.Alike.{AreAlike, AreBothAlike}
use Rattle.fsa_explore.proofs.Grouping.{HasPair, grouped_none, grouped_more, grouped_alike, pairs_agree}
use Rattle.fsa_explore.proofs.alike.alike_in_both.Goals as goal

pub loop-place-init : goal.loop-place-init
loop-place-init c = grouped_none (HasPair c.args.a.now c.args.b.now) c.none-found.result c.new-firsts.result.items c.none-found.ensures c.new-firsts.ensures.items

pub loop-place-preserved : goal.loop-place-preserved
loop-place-preserved c =
    let a = c.args.a.now in
    let b = c.args.b.now in
    let place = c.loop-place.place in
    let in_a : place < length a = c.loop-place-test.true in
    let in_b : place < length b = subst (λ n. place < n) c.requires in_a in
    grouped_more (HasPair a b) place c.loop-place.found c.add_letter.new.found c.loop-place.firsts.items c.add_letter.new.firsts.items (get_or a place 0 ∷ get_or b place 0 ∷ [])
    (get_or a place 0, get_or b place 0, slice_get-get_or a place 0 in_a, slice_get-get_or b place 0 in_b, refl) c.in_ok-add_letter.ensures c.loop-place.invariant

pub returns : goal.returns
returns c =
    let a = c.args.a.now in
    let b = c.args.b.now in
    let alike = grouped_alike (HasPair a b) (AreBothAlike a b) (pairs_agree a b) c.loop-place.place c.loop-place.found c.loop-place.firsts.items c.loop-place.invariant in
    let past = c.loop-place-test.false in
    let below = c.loop-place.auto.place-end in
    let all : c.loop-place.place ≡ length a = omega arith in
    rw c.into_numbers.ensures (subst (λ n. AreAlike (AreBothAlike a b) n c.loop-place.found.next c.loop-place.firsts.items) all alike)
