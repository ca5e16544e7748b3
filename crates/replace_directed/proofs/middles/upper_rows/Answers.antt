use Rattle.std.proofs.Common.{ap, ◌∙◌}
use Rattle.replace_directed.proofs.CentreWords.{rows_more, row_here, row_past}
use Rattle.replace_directed.proofs.middles.upper_rows.Goals as goal
use Rattle.replace_directed.proofs.middles.upper_rows.Goals.{in-Inner+in_ok-push, in_default}

pub loop-mark-preserved : goal.loop-mark-preserved
loop-mark-preserved c =
    let marks = c.args.marks.now in
    let i = c.loop-mark.mark-index in
    elim c.match-mark.branch [
      | in-Inner+in_ok-push w ↦
          rows_more marks _ i _ c.loop-mark-test.true (row_here marks _ c.loop-mark.rows.items i _ w.in-Inner.inside _ w.in-Inner.is w.upper.ensures c.loop-mark.invariant (ap (λ v. v.items) w.rows-is ∙ w.in_ok-push.ensures.items))
      | in_default w ↦
          rows_more marks _ i _ c.loop-mark-test.true (row_past marks _ c.loop-mark.rows.items i _ w.in_default.not-Inner c.loop-mark.invariant (ap (λ v. v.items) w.rows-is))
    ]
