use Rattle.std.proofs.Common.{arith}
use Rattle.project_sources.specs.Limits.{most_symbols}
use Rattle.project_model.proofs.Gathering.{text_full, text_added}
use Rattle.project_model.proofs.plan.add_text.Goals as goal

pub returns-in_ok-intern : goal.returns-in_ok-intern
unfolding most_symbols
returns-in_ok-intern c = text_added c.args.text.now c.args.table.now c.intern.new.self (omega arith) (rw c.as_str.ensures at c.in_ok-intern.ensures.table)

pub returns-else-len-le-MOST_SYMBOLS : goal.returns-else-len-le-MOST_SYMBOLS
unfolding most_symbols
returns-else-len-le-MOST_SYMBOLS c = text_full c.args.text.now c.args.table.now c.requires.short (omega arith)
