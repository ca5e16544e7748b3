use Rattle.fsm_program.proofs.Loading.{fails_by, version_from, why_from}
use Rattle.fsm_program.proofs.load.load_version.Goals as goal

pub returns-in_err-load-clause-error : goal.returns-in_err-load-clause-error
returns-in_err-load-clause-error g c =
    fails_by _ _ c.in_err-load.field-0.0 c.from_residual-in_err-load.ensures.1
    (why_from c.in_ok-sources.sources _ _ _ c.in_err-load.field-0.0 c.in_ok-sources.ensures.gathered c.in_ok-sources.ensures.whole c.in_err-load.ensures.error)

pub returns-clause-loaded : goal.returns-clause-loaded
returns-clause-loaded g c =
    let loads = c.in_ok-load.ensures.loaded in
    (loads.0, loads.1, version_from c.in_ok-sources.sources _ loads.0 c.in_ok-sources.ensures.gathered loads.2)
