use Rattle.std.proofs.Common.{◌∙◌, All, sym, subst, true≢false, arith}
use Rattle.std.proofs.lemmas.List.{take_all}
use Rattle.project_definitions.specs.Demands.{DoesMeet}
use Rattle.project_definitions.proofs.Steps.{all_more, first_fails}
use Rattle.project_definitions.proofs.demands.first_failing.Goals as goal

pub returns-then-not-does : goal.returns-then-not-does
returns-then-not-does c =
    first_fails c.args.forms.now c.args.demand c.args.definitions.now c.definitions.definition-index c.definition-item.result (omega arith) c.definition-item.is c.definitions.invariant
    (λ does. absurd (true≢false (sym (c.in_ok-does.ensures.1 does) ∙ c.if-not-does.true)))

pub definitions-preserved : goal.definitions-preserved
definitions-preserved c =
    all_more (DoesMeet c.args.forms.now c.args.demand) c.args.definitions.now c.definitions.definition-index c.definition-item.result (omega arith) c.definition-item.is c.definitions.invariant (c.in_ok-does.ensures.0 c.if-not-does.false)

pub returns : goal.returns
returns c = subst (All (DoesMeet c.args.forms.now c.args.demand)) (take_all c.definitions.definition-index c.args.definitions.now (omega arith)) c.definitions.invariant
