use Rattle.std.proofs.Common.{rules, ◌≡◌, ◌+◌, ◌++◌, [], ◌∷◌, length, take, refl, ap, sym, subst, ◌∙◌}
use Rattle.std.proofs.lemmas.List.{take_more, take_all}
use Rattle.replace_rules.specs.Alike.{GroupIsLike, IsDivided}
use Rattle.replace_rules.proofs.Told.{EachOf, each_none, each_more, group_divided}
use Rattle.replace_rules.proofs.alike.numbered.Goals as goal

pub loop-group-init : goal.loop-group-init
loop-group-init c =
    let count : length c.in_ok-numbers.numbers.items ≡ length c.args.syms.now = search rules in
    each_none GroupIsLike c.args.syms.now [] c.in_ok-numbers.numbers.items refl count

pub told_by_group-requires-clause-count : goal.told_by_group-requires-clause-count
told_by_group-requires-clause-count c = c.loop-group.invariant.count

pub told_by_group-requires-clause-bounds : goal.told_by_group-requires-clause-bounds
told_by_group-requires-clause-bounds c = c.deref.ensures.value ∙ c.in_ok-bounds.ensures

pub loop-group-preserved : goal.loop-group-preserved
loop-group-preserved c =
    let syms = c.args.syms.now in
    let groups = c.args.groups.now in
    let i = c.loop-group.group-index in
    let g = c.group-item.result in
    let old = c.loop-group.numbers.items in
    let front : take (i + 1) groups ≡ take i groups ++ g ∷ [] = take_more groups i g c.loop-group-test.true ∙ ap (λ z. take i groups ++ z ∷ []) (sym c.group-item.is) in
    let by_maps = rw c.deref-in-loop-group.ensures.value at c.in_ok-numbers-2.ensures.maps in
    let by_contexts = rw c.deref-in-loop-group-2.ensures.value at c.in_ok-numbers-2.ensures.contexts in
    each_more GroupIsLike syms (take (i + 1) groups) (take i groups) g old _ front c.in_ok-numbers-2.ensures.finer c.loop-group.invariant
    (group_divided syms c.deref.result.now _ g (c.deref.ensures.value ∙ c.in_ok-bounds.ensures) by_maps by_contexts)

pub returns : goal.returns
returns c =
    subst (λ gs. IsDivided c.args.syms.now c.loop-group.numbers.items (EachOf GroupIsLike gs)) (take_all c.loop-group.group-index c.args.groups.now c.loop-group-test.false) c.loop-group.invariant
