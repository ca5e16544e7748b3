use Rattle.std.proofs.Common.{sym, ◌∙◌, arith}
use Rattle.project_sources.specs.Limits.{most_symbols}
use Rattle.project_model.proofs.Adding.{leaf_passed, leaf_full, leaf_added}
use Rattle.project_model.proofs.symbols.add_symbol.Goals as goal
use Rattle.project_model.proofs.symbols.add_symbol.Goals.{else-is_symbol-via-then-is_symbol+else-len-le-MOST_SYMBOLS, else-is_symbol-via-else-is_symbol}

pub returns-in_ok-intern : goal.returns-in_ok-intern
unfolding most_symbols
returns-in_ok-intern c =
    leaf_added c.args.names.now c.args.leaf.now c.args.table.now c.requires c.intern.new.self (sym c.is_symbol.ensures ∙ c.if-is_symbol.true) (omega arith)
    (rw c.symbol_text.ensures at c.in_ok-intern.ensures.table)

pub returns-else-is_symbol : goal.returns-else-is_symbol
unfolding most_symbols
returns-else-is_symbol c = elim c.else-is_symbol.branch [
  | else-is_symbol-via-then-is_symbol+else-len-le-MOST_SYMBOLS w ↦ leaf_full c.args.names.now c.args.leaf.now c.args.table.now c.requires (sym c.is_symbol.ensures ∙ w.if-is_symbol.true) (omega arith)
  | else-is_symbol-via-else-is_symbol w ↦ leaf_passed c.args.names.now c.args.leaf.now c.args.table.now c.requires (sym c.is_symbol.ensures ∙ w.if-is_symbol.false)
]
