use Rattle.project_edits.proofs.Rows.{goes_on, stops}
use Rattle.project_edits.proofs.applying.apply.Goals as goal

pub edits-preserved : goal.edits-preserved
edits-preserved c = goes_on c.args.change.now c.edits.edit-index c.edit-item.result c.edits-test.true c.edit-item.is _ c.args.sources.now c.edits.invariant c.in_ok-new-2.new c.in_ok-new-2.ensures

pub returns-in_err-new-2 : goal.returns-in_err-new-2
returns-in_err-new-2 c =
    stops c.args.change.now c.edits.edit-index c.edit-item.result c.edits-test.true c.edit-item.is _ c.args.sources.now c.edits.invariant _ c.in_err-new-2.field-0.0 c.from_residual-in_err-new-2.ensures.1 c.in_err-new-2.ensures
