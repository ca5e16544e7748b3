use Rattle.std.proofs.Common.{inl, inr}
use Rattle.project_manifest.specs.Rows.{First}
use Rattle.project_definitions.specs.Demands.{DemandFault, demands}
use Rattle.project_definitions.specs.declared.demands.Demand.TheVariants as demand
use Rattle.project_definitions.proofs.Steps.{all_pass}
use Rattle.project_model.proofs.Projecting.{refused_or, refused_so}
use Rattle.project_model.proofs.plan.check.Goals as goal

pub returns-in-Err-clause-error : goal.returns-in-Err-clause-error
returns-in-Err-clause-error c =
    let fault = DemandFault c.args.definitions.now c.args.forms.now in
    refused_so (fault demand.Fits) (First fault demands) c.in-Err.error (λ found h. inl h) c.in-Err.ensures.error

pub returns-clause-error : goal.returns-clause-error
returns-clause-error c =
    let fault = DemandFault c.args.definitions.now c.args.forms.now in
    let fits = all_pass c.args.forms.now demand.Fits c.args.definitions.now c.in-Ok.ensures.met in
    refused_or (fault demand.Light) (First fault demands) c.meet-2.result (λ found h. inr (fits, inl h)) c.meet-2.ensures.error
