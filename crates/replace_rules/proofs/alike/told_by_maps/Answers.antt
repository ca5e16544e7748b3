use Rattle.std.proofs.Common.{◌≡◌, ◌+◌, ◌++◌, [], ◌∷◌, length, take, refl, ap, sym, subst, ◌∙◌}
use Rattle.std.proofs.lemmas.List.{take_more, take_all}
use Rattle.replace_rules.specs.Alike.{MapIsLike, IsDivided, IsFiner}
use Rattle.replace_rules.proofs.Told.{EachOf, each_none, each_more, finer_itself, finer_more}
use Rattle.replace_rules.proofs.alike.told_by_maps.Goals as goal

pub loop-map-init : goal.loop-map-init
loop-map-init c = (finer_itself c.args.numbers.items, each_none MapIsLike c.args.syms.now [] c.args.numbers.items refl c.requires)

pub told_by_map-requires : goal.told_by_map-requires
told_by_map-requires c = ap length c.deref.ensures.value ∙ c.loop-map.invariant.1.count

pub loop-map-preserved : goal.loop-map-preserved
loop-map-preserved c =
    let syms = c.args.syms.now in
    let maps = c.args.maps.now in
    let i = c.loop-map.map-index in
    let m = c.map-item.result in
    let old = c.loop-map.told.items in
    let front : take (i + 1) maps ≡ take i maps ++ m ∷ [] = take_more maps i m c.loop-map-test.true ∙ ap (λ z. take i maps ++ z ∷ []) (sym c.map-item.is) in
    let finer = rw c.deref.ensures.value at c.in_ok-told.ensures.finer in
    (finer_more c.args.numbers.items old _ c.loop-map.invariant.0 finer, each_more MapIsLike syms (take (i + 1) maps) (take i maps) m old _ front finer c.loop-map.invariant.1 c.in_ok-told.ensures.divided)

pub returns-clause-finer : goal.returns-clause-finer
returns-clause-finer c = c.loop-map.invariant.0

pub returns-clause-divided : goal.returns-clause-divided
returns-clause-divided c =
    subst (λ ms. IsDivided c.args.syms.now c.loop-map.told.items (EachOf MapIsLike ms)) (take_all c.loop-map.map-index c.args.maps.now c.loop-map-test.false) c.loop-map.invariant.1
