use Rattle.std.proofs.Common.{subst}
use Rattle.flag_diacritics.specs.Idle.{live_behind}
use Rattle.flag_diacritics.specs.Search.{IsPlaceBehind}
use Rattle.flag_diacritics.proofs.Searching.{AddsEdges-one}
use Rattle.flag_diacritics.proofs.search.add_edge.Goals as goal

pub returns : goal.returns
returns c = λ now shows.
    let new = c.live_place.new.features in
    let edge = c.args.edge.now in
    let step = live_behind c.args.actions.now c.args.idle.now in
    let r = subst (λ o. IsPlaceBehind step new edge now o) c.in-Some.is (c.in_ok-next.ensures.place now shows) in
    AddsEdges-one step c.args.number now edge c.args.found.now.places c.args.found.now.features new c.in_ok-next.ensures.kept c.args.found.now.edges.items
    r.0 r.1 c.in-Some.next r.2 r.3 c.number_of.new.self c.in_ok-to.to c.in_ok-to.ensures.number c.in_ok-to.ensures.kept c.push.new.self.items (rw c.letter_for.ensures at c.in_ok-push.ensures.items)
