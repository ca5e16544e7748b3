use Rattle.std.proofs.Common.{arith}
use Rattle.interlinear.proofs.Pieces.{few_lines}
use Rattle.text_trials.proofs.gloss_rows.said_of_gloss.Goals as goal

pub read-requires : goal.read-requires
read-requires c = let few = few_lines c.args.table.now c.utf8.table in omega (arith, c.if-table-gt-MOST_READ.false)
