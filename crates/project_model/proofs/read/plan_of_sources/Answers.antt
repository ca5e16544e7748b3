use Rattle.std.proofs.Common.{sym}
use Rattle.project_model.proofs.Reading.{without_manifest, without_project}
use Rattle.project_model.proofs.read.plan_of_sources.Goals as goal

pub returns-in_default-clause-plan : goal.returns-in_default-clause-plan
returns-in_default-clause-plan c = without_project c.args.sources.now c.args.table.now c.args.table.now c.refused.result (sym c.in_default.ensures) c.refused.ensures

pub returns-in-Ok-clause-plan : goal.returns-in-Ok-clause-plan
returns-in-Ok-clause-plan c = c.plan_by.ensures.plan c.in-Some.bytes.now (sym c.in-Some.ensures) c.in-Ok.ensures.manifest

pub returns-in-Err-clause-plan : goal.returns-in-Err-clause-plan
returns-in-Err-clause-plan c = without_manifest c.args.sources.now c.in-Some.bytes.now (sym c.in-Some.ensures) c.args.table.now c.args.table.now c.in-Err.error c.in-Err.ensures.error
