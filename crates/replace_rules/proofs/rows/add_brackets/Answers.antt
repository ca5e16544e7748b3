use Rattle.replace_rules.proofs.MarkRows.{brackets_more}
use Rattle.replace_rules.proofs.rows.add_brackets.Goals as goal

pub loop-place-preserved : goal.loop-place-preserved
loop-place-preserved c f =
    brackets_more f c.loop-place.place c.args.rows.now.items c.loop-place.rows.items _ _ (c.loop-place.invariant f) c.in_ok-add_row.ensures c.in_ok-add_row-2.ensures
