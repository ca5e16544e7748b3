use Rattle.std.proofs.Common.{◌+◌, ◌≡◌, ◌++◌, [], ◌∷◌, take, ap, sym, subst, ◌∙◌}
use Rattle.std.proofs.lemmas.List.{take_more, take_all}
use Rattle.replace_directed.specs.Turned.{AreMatched, IsTurnedContext}
use Rattle.replace_directed.proofs.TurnedRules.{matched_none, matched_more}
use Rattle.replace_directed.proofs.turning.turned_contexts.Goals as goal

pub loop-context-init : goal.loop-context-init
loop-context-init c = subst (AreMatched IsTurnedContext []) (sym c.new-turned.ensures.items) (matched_none IsTurnedContext)

pub loop-context-preserved : goal.loop-context-preserved
loop-context-preserved c =
    let xs = c.args.contexts.now in
    let i = c.loop-context.context-index in
    let x = c.context-item.result in
    let front : take (i + 1) xs ≡ take i xs ++ x ∷ [] = take_more xs i x c.loop-context-test.true ∙ ap (λ z. take i xs ++ z ∷ []) (sym c.context-item.is) in
    matched_more IsTurnedContext xs c.loop-context.turned.items _ i x c.in_ok-turned_context.field-0 front c.in_ok-push.ensures.items c.loop-context.invariant c.in_ok-turned_context.ensures

pub returns : goal.returns
returns c = subst (λ xs. AreMatched IsTurnedContext xs c.loop-context.turned.items) (take_all c.loop-context.context-index c.args.contexts.now c.loop-context-test.false) c.loop-context.invariant
