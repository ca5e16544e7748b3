use Rattle.std.proofs.Common.{◌+◌, ◌-◌, ◌++◌, ◌∷◌, [], Contains, ap, length, subst, sym, take, ◌∙◌}
use Rattle.std.proofs.lemmas.List.{take_more}
use Rattle.std.proofs.lemmas.List.Elements.{Contains-get_or}
use Rattle.pair_test.specs.declared.ready.ContextTest.{ContextTest}
use Rattle.pair_test.proofs.Places.{more_round}
use Rattle.pair_test.proofs.holding.holding.Goals as goal

pub mark_context-requires-clause-fits : goal.mark_context-requires-clause-fits
mark_context-requires-clause-fits c =
    let t = c.context-item.result in
    c.requires.fits t (subst (Contains c.args.contexts.now) (sym c.context-item.is) (Contains-get_or c.args.contexts.now c.contexts.context-index t c.contexts-test.true))

pub contexts-preserved : goal.contexts-preserved
contexts-preserved c =
    let all = c.args.contexts.now in
    let i = c.contexts.context-index in
    let t = c.context-item.result in
    let word = c.args.spelled.now.word.now in
    more_round (take i all) (take (i + 1) all) t word c.args.width (length word + 1 - c.args.width) c.contexts.marks.items c.mark_context.new.marks.items
    (take_more all i t c.contexts-test.true ∙ ap (λ (z : ContextTest). take i all ++ z ∷ []) (sym c.context-item.is)) c.contexts.invariant c.in_ok-mark_context.ensures
