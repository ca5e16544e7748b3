use Rattle.std.proofs.Common.{◌≡◌, ◌<◌, ◌+◌, ◌++◌, [], ◌∷◌, Some, take, length, get_or, sym, subst, ap, inl, inr, ◌∙◌}
use Rattle.std.specs.List.{Contains, slice_get}
use Rattle.std.proofs.lemmas.List.{take_all, take_more}
use Rattle.std.proofs.lemmas.List.Elements.{Contains-push_cases}
use Rattle.std.proofs.lemmas.Option.{slice_get-get_or}
use Rattle.lookup.proofs.Growing.{growing_step, growing_next, keeps_node, keeps_place, has_target}
use Rattle.lookup.proofs.tree.follow.Goals as goal

pub reach-requires : goal.reach-requires
reach-requires g c =
    let e = c.edge-item.result in
    let member : Contains c.out-edge-items.result.now e = (c.loop-edge.edge-index, c.loop-edge-test.true, sym c.edge-item.is) in
    rw c.loop-edge.invariant.bound (c.requires.within e ((c.out-edge-items.ensures e).0 member).0).1

pub loop-edge-preserved : goal.loop-edge-preserved
loop-edge-preserved g c =
    let rows = c.args.rows.now in
    let number = c.args.number in
    let e = c.edge-item.result in
    let out = c.out-edge-items.result.now in
    let i = c.loop-edge.edge-index in
    let old = c.loop-edge.tree in
    let new = c.reach.new.tree in
    let adds = c.in_ok-reach.ensures in
    let inv = c.loop-edge.invariant in
    let member : Contains out e = (i, c.loop-edge-test.true, sym c.edge-item.is) in
    let held = (c.out-edge-items.ensures e).0 member in
    let inside : number < length c.found.result.now = rw (← c.found.ensures.found) at c.requires.number in
    let there : slice_get c.args.tree.now.reached.found number ≡ Some e.from =
    subst (λ fs. slice_get fs number ≡ Some e.from) c.found.ensures.found (slice_get-get_or c.found.result.now number 0 inside ∙ ap Some (sym held.1)) in
    let front : take (i + 1) out ≡ take i out ++ e ∷ [] = take_more out i e c.loop-edge-test.true ∙ ap (λ y. take i out ++ y ∷ []) (sym c.edge-item.is) in
    record {
      bound = adds.0 ∙ inv.bound;
      grows = λ root h. growing_step rows root number old new (record { before = number; edge = e }) adds held.0 (inv.node e.from there) (inv.grows root h);
      node = λ q h. keeps_place rows 0 number old new (record { before = number; edge = e }) adds number q (inv.node q h);
      targets = λ f h. elim (Contains-push_cases (take i out) e f (subst (λ es. Contains es f) front h)) [
        | inl before ↦ keeps_node rows 0 number old new (record { before = number; edge = e }) adds f.to (inv.targets f before)
        | inr same ↦ subst (λ x. Contains new.reached.found x.to) same (has_target rows 0 number old new (record { before = number; edge = e }) adds)
      ];
    }

pub returns-clause-grown : goal.returns-clause-grown
returns-clause-grown g c =
    let rows = c.args.rows.now in
    let number = c.args.number in
    let out = c.out-edge-items.result.now in
    let inv = c.loop-edge.invariant in
    let node = get_or c.found.result.now number 0 in
    let inside : number < length c.found.result.now = rw (← c.found.ensures.found) at c.requires.number in
    let there : slice_get c.args.tree.now.reached.found number ≡ Some node =
    subst (λ fs. slice_get fs number ≡ Some node) c.found.ensures.found (slice_get-get_or c.found.result.now number 0 inside) in
    λ root h. growing_next rows root number node c.loop-edge.tree (inv.node node there)
    (λ e held from. inv.targets e (subst (λ es. Contains es e) (sym (take_all c.loop-edge.edge-index out c.loop-edge-test.false)) ((c.out-edge-items.ensures e).1 (held, from))))
    (inv.grows root h)
