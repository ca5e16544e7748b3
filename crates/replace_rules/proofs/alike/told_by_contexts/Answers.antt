use Rattle.std.proofs.Common.{◌≡◌, ◌+◌, ◌++◌, [], ◌∷◌, length, take, refl, ap, sym, subst, ◌∙◌}
use Rattle.std.proofs.lemmas.List.{take_more, take_all}
use Rattle.replace_rules.specs.Alike.{ContextIsLike, IsDivided, IsFiner}
use Rattle.replace_rules.proofs.Told.{EachOf, each_none, each_more, finer_itself, finer_more}
use Rattle.replace_rules.proofs.alike.told_by_contexts.Goals as goal

pub loop-context-init : goal.loop-context-init
loop-context-init c = (finer_itself c.args.numbers.items, each_none ContextIsLike c.args.bounds.now [] c.args.numbers.items refl c.requires)

pub told_by_context-requires : goal.told_by_context-requires
told_by_context-requires c = ap length c.deref.ensures.value ∙ c.loop-context.invariant.1.count

pub loop-context-preserved : goal.loop-context-preserved
loop-context-preserved c =
    let bounds = c.args.bounds.now in
    let contexts = c.args.contexts.now in
    let i = c.loop-context.context-index in
    let d = c.context-item.result in
    let old = c.loop-context.told.items in
    let front : take (i + 1) contexts ≡ take i contexts ++ d ∷ [] = take_more contexts i d c.loop-context-test.true ∙ ap (λ z. take i contexts ++ z ∷ []) (sym c.context-item.is) in
    let finer = rw c.deref.ensures.value at c.in_ok-told.ensures.finer in
    (finer_more c.args.numbers.items old _ c.loop-context.invariant.0 finer, each_more ContextIsLike bounds (take (i + 1) contexts) (take i contexts) d old _ front finer c.loop-context.invariant.1 c.in_ok-told.ensures.divided)

pub returns-clause-finer : goal.returns-clause-finer
returns-clause-finer c = c.loop-context.invariant.0

pub returns-clause-divided : goal.returns-clause-divided
returns-clause-divided c =
    subst (λ cs. IsDivided c.args.bounds.now c.loop-context.told.items (EachOf ContextIsLike cs)) (take_all c.loop-context.context-index c.args.contexts.now c.loop-context-test.false) c.loop-context.invariant.1
