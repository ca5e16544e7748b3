use Rattle.std.proofs.Common.{Some}
use Rattle.fsa_rational.proofs.TableRows.{gathers_none, gathers_all, kept_more, kept_past}
use Rattle.fsa_rational.proofs.translate.kept_rows.Goals as goal
use Rattle.fsa_rational.proofs.translate.kept_rows.Goals.{in-Some+in_ok-push, in_default}

pub loop-row-init : goal.loop-row-init
loop-row-init g c = rw c.new-rows.ensures.items (gathers_none (λ r. (r.1, Some r.0)) c.args.table.now)

pub loop-row-preserved : goal.loop-row-preserved
loop-row-preserved g c =
    elim c.match-row.branch [
      | in-Some+in_ok-push w ↦
          rw (w.rows-is, w.in_ok-push.ensures.items)
          (kept_more c.args.table.now c.loop-row.row-index c.row-item.result c.loop-row-test.true c.row-item.is c.loop-row.rows.items w.in-Some.letter w.in-Some.is c.loop-row.invariant)
      | in_default w ↦
          rw w.rows-is
          (kept_past c.args.table.now c.loop-row.row-index c.row-item.result c.loop-row-test.true c.row-item.is c.loop-row.rows.items w.in_default.not-Some c.loop-row.invariant)
    ]

pub returns : goal.returns
returns g c = gathers_all (λ r. (r.1, Some r.0)) c.args.table.now c.loop-row.row-index c.loop-row.rows.items c.loop-row-test.false c.loop-row.invariant
