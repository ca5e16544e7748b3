use Rattle.std.proofs.Common.{[], ◌∷◌, get_or, refl}
use Rattle.std.proofs.lemmas.Option.{slice_get-get_or}
use Rattle.fsa_explore.proofs.Exploring.{AddsRow-push}
use Rattle.fsa_product.specs.Pairs.{IsPair, LeadsAt}
use Rattle.fsa_product.proofs.products.PairsLazyAutomaton.add_row.Goals as goal

pub loop-place-preserved : goal.loop-place-preserved
loop-place-preserved g c =
    let a = c.args.self.now.first.now in
    let b = c.args.self.now.second.now in
    let places = c.args.self.now.places.now in
    let i = c.loop-place.place-index in
    AddsRow-push (IsPair a b) (LeadsAt a b places c.args.pair.now) i c.args.found.now c.loop-place.found c.push.new.self
    (c.next.result ∷ c.next-in-loop-place.result ∷ []) (record { two = refl; first = c.next.ensures.within; second = c.next-in-loop-place.ensures.within })
    (get_or places i 0, slice_get-get_or places i 0 c.loop-place-test.true, (c.next.ensures.next, c.next-in-loop-place.ensures.next)) c.in_ok-push.ensures c.loop-place.invariant
