use Rattle.project_sources.specs.Faults.{fault}
use Rattle.project_definitions.specs.Demands.{DemandFault, why_not}
use Rattle.project_definitions.proofs.Steps.{refused_by}
use Rattle.project_model.proofs.plan.meet.Goals as goal

pub returns-in-Ok-Some-clause-error : goal.returns-in-Ok-Some-clause-error
returns-in-Ok-Some-clause-error c =
    let d = c.in-Ok-Some.definition.now in
    refused_by (DemandFault c.args.definitions.now c.args.forms.now c.args.demand) (fault d.file d.line (why_not c.args.demand)) c.refused_at.result (rw c.in-Ok-Some.field-0-is at c.in-Ok-Some.ensures)
    (rw c.why_not.ensures at c.refused_at.ensures)
