use Rattle.std.proofs.Common.{◌≡◌, ◌+◌, ◌++◌, [], ◌∷◌, List, Some, length, set, take, refl, ap, sym, subst, ◌∙◌}
use Rattle.std.specs.Prelude.{Vec}
use Rattle.std.specs.Global.{Global}
use Rattle.std.specs.List.{slice_get}
use Rattle.fsa_partial.specs.declared.grouping.Arc.{Arc}
use Rattle.std.specs.BTreeMap.{get}
use Rattle.std.proofs.lemmas.List.{take_more, take_all}
use Rattle.std.proofs.lemmas.Option.{slice_get_read}
use Rattle.fsa_partial.specs.Groups.{IsGrouping}
use Rattle.fsa_partial.proofs.Grouped.{grouping_push, groups_all}
use Rattle.fsa_partial.proofs.grouping.by_letter.Goals as goal

pub loop-edge-preserved : goal.loop-edge-preserved
loop-edge-preserved g c =
    let edges = c.args.edges.now in
    let i = c.loop-edge.edge-index in
    let y = c.edge-item.result in
    let x = c.in-Some.letter in
    let front : take (i + 1) edges ≡ take i edges ++ y ∷ [] = take_more edges i y c.loop-edge-test.true ∙ ap (λ z. take i edges ++ z ∷ []) (sym c.edge-item.is) in
    let find = get g.L.Ord.cmp c.place_of.new.places in
    let groups = c.place_of.new.groups.items in
    let k = c.in_ok-place.place in
    let old = c.index_mut.result.now in
    let is = c.in_ok-place.ensures.groups (take i edges) c.loop-edge.invariant in
    let place = c.in_ok-place.ensures.place in
    let at_old : slice_get groups k ≡ Some old = slice_get_read groups (length groups) k old refl (is.within x k place) c.index_mut.ensures.value in
    let new : List (Vec Arc Global) = set groups k c.push.new.self in
    subst (λ es. IsGrouping es find new) (sym front)
    (grouping_push (take i edges) find groups is x k place old c.push.new.self at_old (record { from = y.from; to = y.to }) c.in_ok-push.ensures.items y
    (ap (λ o. record { from = y.from; letter = o; to = y.to }) c.in-Some.is))

pub returns : goal.returns
returns g c =
    let edges = c.args.edges.now in
    let find = get g.L.Ord.cmp c.loop-edge.places in
    let groups = c.loop-edge.groups.items in
    groups_all edges find groups (subst (λ es. IsGrouping es find groups) (take_all c.loop-edge.edge-index edges c.loop-edge-test.false) c.loop-edge.invariant)
