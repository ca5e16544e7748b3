use Rattle.std.proofs.Common.{◌+◌, ◌≡◌, ◌++◌, [], ◌∷◌, take, ap, sym, ◌∙◌}
use Rattle.std.proofs.lemmas.List.{take_more, take_all}
use Rattle.replace_rules.specs.Places.{IsBodyOf}
use Rattle.replace_directed.proofs.Unions.{some_none, some_more, some_all}
use Rattle.replace_directed.proofs.blocks.bodies.Goals as goal

pub loop-map-init : goal.loop-map-init
loop-map-init c = some_none (λ m. IsBodyOf m.centre m.result m.after) c.in_ok-all.all c.in_ok-all.ensures

pub loop-map-preserved : goal.loop-map-preserved
loop-map-preserved c =
    let maps = c.args.maps.now in
    let i = c.loop-map.map-index in
    let m = c.map-item.result in
    let front : take (i + 1) maps ≡ take i maps ++ m ∷ [] = take_more maps i m c.loop-map-test.true ∙ ap (λ z. take i maps ++ z ∷ []) (sym c.map-item.is) in
    some_more (λ m. IsBodyOf m.centre m.result m.after) (take (i + 1) maps) (take i maps) m c.loop-map.all c.in_ok-more.more _ front c.loop-map.invariant c.in_ok-more.ensures c.in_ok-all-2.ensures.language

pub returns : goal.returns
returns c =
    some_all (λ m. IsBodyOf m.centre m.result m.after) c.args.maps.now (take c.loop-map.map-index c.args.maps.now) c.loop-map.all (take_all c.loop-map.map-index c.args.maps.now c.loop-map-test.false) c.loop-map.invariant
