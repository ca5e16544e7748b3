use Rattle.std.proofs.Common.{◌+◌, ◌≡◌, ◌++◌, [], ◌∷◌, take, ap, sym, subst, ◌∙◌}
use Rattle.std.proofs.lemmas.List.{take_more, take_all}
use Rattle.replace_directed.specs.Turned.{AreMatched, IsTurnedMap}
use Rattle.replace_directed.proofs.TurnedRules.{matched_none, matched_more}
use Rattle.replace_directed.proofs.turning.turned_maps.Goals as goal

pub loop-map-init : goal.loop-map-init
loop-map-init c = subst (AreMatched IsTurnedMap []) (sym c.new-turned.ensures.items) (matched_none IsTurnedMap)

pub loop-map-preserved : goal.loop-map-preserved
loop-map-preserved c =
    let xs = c.args.maps.now in
    let i = c.loop-map.map-index in
    let x = c.map-item.result in
    let front : take (i + 1) xs ≡ take i xs ++ x ∷ [] = take_more xs i x c.loop-map-test.true ∙ ap (λ z. take i xs ++ z ∷ []) (sym c.map-item.is) in
    matched_more IsTurnedMap xs c.loop-map.turned.items _ i x c.in_ok-turned_map.field-0 front c.in_ok-push.ensures.items c.loop-map.invariant c.in_ok-turned_map.ensures

pub returns : goal.returns
returns c = subst (λ xs. AreMatched IsTurnedMap xs c.loop-map.turned.items) (take_all c.loop-map.map-index c.args.maps.now c.loop-map-test.false) c.loop-map.invariant
