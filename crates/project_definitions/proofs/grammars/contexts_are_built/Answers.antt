use Rattle.std.proofs.Common.{All, arith, refl, subst, sym, true≢false, ◌∙◌}
use Rattle.std.proofs.lemmas.List.{take_all}
use Rattle.project_definitions.specs.Passing.{IsBuiltContext}
use Rattle.project_definitions.proofs.Passing.{one_here}
use Rattle.project_definitions.proofs.Steps.{all_more}
use Rattle.project_definitions.proofs.Telling.{never}
use Rattle.project_definitions.proofs.grammars.contexts_are_built.Goals as goal

pub returns-then-not-built : goal.returns-then-not-built
returns-then-not-built c = (
  λ h. absurd (never h),
  λ all. absurd (true≢false (sym (c.in_ok-built.ensures.1 (one_here IsBuiltContext c.args.contexts.now c.contexts.context-index c.context-item.result (omega arith) c.context-item.is all)) ∙ c.if-not-built.true)),
)

pub contexts-preserved : goal.contexts-preserved
contexts-preserved c =
    all_more IsBuiltContext c.args.contexts.now c.contexts.context-index c.context-item.result (omega arith) c.context-item.is c.contexts.invariant (c.in_ok-built.ensures.0 c.if-not-built.false)

pub returns : goal.returns
returns c = (λ h. subst (All IsBuiltContext) (take_all c.contexts.context-index c.args.contexts.now (omega arith)) c.contexts.invariant, λ all. refl)
