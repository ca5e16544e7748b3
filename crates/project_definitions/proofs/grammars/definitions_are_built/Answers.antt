use Rattle.std.proofs.Common.{All, arith, refl, subst, sym, true≢false, ◌∙◌}
use Rattle.std.proofs.lemmas.List.{take_all}
use Rattle.project_definitions.specs.Passing.{IsBuiltDefinition}
use Rattle.project_definitions.proofs.Passing.{one_here}
use Rattle.project_definitions.proofs.Steps.{all_more}
use Rattle.project_definitions.proofs.Telling.{never}
use Rattle.project_definitions.proofs.grammars.definitions_are_built.Goals as goal

pub returns-then-not-built : goal.returns-then-not-built
returns-then-not-built c = (
  λ h. absurd (never h),
  λ all. absurd (true≢false (sym (c.in_ok-built.ensures.1 (one_here IsBuiltDefinition c.args.definitions.now c.definitions.definition-index c.definition-item.result (omega arith) c.definition-item.is all)) ∙ c.if-not-built.true)),
)

pub definitions-preserved : goal.definitions-preserved
definitions-preserved c =
    all_more IsBuiltDefinition c.args.definitions.now c.definitions.definition-index c.definition-item.result (omega arith) c.definition-item.is c.definitions.invariant (c.in_ok-built.ensures.0 c.if-not-built.false)

pub returns : goal.returns
returns c = (λ h. subst (All IsBuiltDefinition) (take_all c.definitions.definition-index c.args.definitions.now (omega arith)) c.definitions.invariant, λ all. refl)
