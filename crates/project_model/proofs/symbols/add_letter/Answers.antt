use Rattle.std.proofs.Common.{sym, ◌∙◌, arith}
use Rattle.project_sources.specs.Limits.{most_symbols}
use Rattle.project_model.proofs.Adding.{letter_added, letter_full, letter_passed}
use Rattle.project_model.proofs.symbols.add_letter.Goals as goal
use Rattle.project_model.proofs.symbols.add_letter.Goals.{else-not-is_empty-via-then-not-is_empty+else-len-le-MOST_SYMBOLS, else-not-is_empty-via-else-not-is_empty}

pub returns-in_ok-intern : goal.returns-in_ok-intern
unfolding most_symbols
returns-in_ok-intern c = letter_added c.args.text.now c.args.table.now c.requires c.intern.new.self (sym c.is_empty.ensures ∙ c.if-not-is_empty.true) (omega arith) c.in_ok-intern.ensures.table

pub returns-else-not-is_empty : goal.returns-else-not-is_empty
unfolding most_symbols
returns-else-not-is_empty c = elim c.else-not-is_empty.branch [
  | else-not-is_empty-via-then-not-is_empty+else-len-le-MOST_SYMBOLS w ↦ letter_full c.args.text.now c.args.table.now c.requires (sym c.is_empty.ensures ∙ w.if-not-is_empty.true) (omega arith)
  | else-not-is_empty-via-else-not-is_empty w ↦ letter_passed c.args.text.now c.args.table.now c.requires (sym c.is_empty.ensures ∙ w.if-not-is_empty.false)
]
