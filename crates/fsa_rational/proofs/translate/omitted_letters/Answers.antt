use Rattle.std.proofs.Common.{None, ap, not, ◌∙◌}
use Rattle.fsa_rational.proofs.TableRows.{gathers_none, gathers_all, omitted_more, omitted_past}
use Rattle.fsa_rational.proofs.translate.omitted_letters.Goals as goal
use Rattle.fsa_rational.proofs.translate.omitted_letters.Goals.{then-is_none+in_ok-push, else-is_none}

pub loop-row-init : goal.loop-row-init
loop-row-init g c = rw c.new-letters.ensures.items (gathers_none (λ x. (x, None)) c.args.table.now)

pub loop-row-preserved : goal.loop-row-preserved
loop-row-preserved g c =
    elim c.if-is_none.branch [
      | then-is_none+in_ok-push w ↦
          rw (w.letters-is, w.in_ok-push.ensures.items)
          (omitted_more c.args.table.now c.loop-row.row-index c.row-item.result c.loop-row-test.true c.row-item.is c.loop-row.letters.items (c.is_none.ensures ∙ ap not w.if-is_none.true) c.loop-row.invariant)
      | else-is_none w ↦
          rw w.letters-is
          (omitted_past c.args.table.now c.loop-row.row-index c.row-item.result c.loop-row-test.true c.row-item.is c.loop-row.letters.items (c.is_none.ensures ∙ ap not w.if-is_none.false) c.loop-row.invariant)
    ]

pub returns : goal.returns
returns g c = gathers_all (λ x. (x, None)) c.args.table.now c.loop-row.row-index c.loop-row.letters.items c.loop-row-test.false c.loop-row.invariant
