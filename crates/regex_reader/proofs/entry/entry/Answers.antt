use Rattle.regex_reader.specs.Verdicts.{IsEntryAnswer}
use Rattle.regex_reader.proofs.Errors.{passed_on}
use Rattle.regex_reader.proofs.Entries.{entry_deep, entry_ruled, entry_not_checked, entry_high, entry_fine}
use Rattle.regex_reader.proofs.entry.entry.Goals as goal

pub returns-then-is_too_deep : goal.returns-then-is_too_deep
returns-then-is_too_deep c = entry_deep c.args.line c.args.tokens.now c.if-is_too_deep.ensures

pub returns-then-has_ruling : goal.returns-then-has_ruling
returns-then-has_ruling c = entry_ruled c.args.line c.args.tokens.now c.if-is_too_deep.ensures c.if-has_ruling.ensures

pub returns-in_err-expr : goal.returns-in_err-expr
returns-in_err-expr c = passed_on (IsEntryAnswer c.args.line c.args.tokens.now) c.from_residual.result c.in_err-expr.field-0.0 c.from_residual.ensures.1 (entry_not_checked c.args.line c.args.tokens.now c.in_err-expr.field-0.0 c.if-is_too_deep.ensures c.in_err-expr.ensures)

pub returns-then-found : goal.returns-then-found
returns-then-found c = entry_high c.args.line c.args.tokens.now (c.in_ok-expr.expr, c.in_ok-expr.found) c.if-is_too_deep.ensures c.if-has_ruling.ensures c.in_ok-expr.ensures c.if-found.true

pub returns : goal.returns
returns c = entry_fine c.args.line c.args.tokens.now (c.in_ok-expr.expr, c.in_ok-expr.found) c.if-is_too_deep.ensures c.if-has_ruling.ensures c.in_ok-expr.ensures c.if-found.false
