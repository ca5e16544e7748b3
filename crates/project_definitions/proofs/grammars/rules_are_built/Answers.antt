use Rattle.std.proofs.Common.{All, arith, refl, subst, sym, true≢false, ◌∙◌}
use Rattle.std.proofs.lemmas.List.{take_all}
use Rattle.project_definitions.specs.Passing.{IsBuiltRule}
use Rattle.project_definitions.proofs.Passing.{one_here}
use Rattle.project_definitions.proofs.Steps.{all_more}
use Rattle.project_definitions.proofs.Telling.{never}
use Rattle.project_definitions.proofs.grammars.rules_are_built.Goals as goal

pub returns-then-not-built : goal.returns-then-not-built
returns-then-not-built c = (
  λ h. absurd (never h),
  λ all. absurd (true≢false (sym (c.in_ok-built.ensures.1 (one_here IsBuiltRule c.args.rules.now c.rules.rule-index c.rule-item.result (omega arith) c.rule-item.is all)) ∙ c.if-not-built.true)),
)

pub rules-preserved : goal.rules-preserved
rules-preserved c =
    all_more IsBuiltRule c.args.rules.now c.rules.rule-index c.rule-item.result (omega arith) c.rule-item.is c.rules.invariant (c.in_ok-built.ensures.0 c.if-not-built.false)

pub returns : goal.returns
returns c = (λ h. subst (All IsBuiltRule) (take_all c.rules.rule-index c.args.rules.now (omega arith)) c.rules.invariant, λ all. refl)
