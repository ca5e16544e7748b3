use Rattle.fsm_program.proofs.Loading.{fails_by, loaded_from, why_from}
use Rattle.fsm_program.proofs.load.load.Goals as goal

pub returns-in_err-project_of-clause-error : goal.returns-in_err-project_of-clause-error
returns-in_err-project_of-clause-error g c =
    fails_by _ _ c.in_err-project_of.field-0.0 c.from_residual-in_err-project_of.ensures.1
    (why_from c.in_ok-sources.sources _ _ _ c.in_err-project_of.field-0.0 c.in_ok-sources.ensures.gathered c.in_ok-sources.ensures.whole c.in_err-project_of.ensures.error)

pub returns-clause-loaded : goal.returns-clause-loaded
returns-clause-loaded g c = loaded_from c.in_ok-sources.sources _ _ c.in_ok-sources.ensures.gathered c.in_ok-project_of.ensures.project
