use Rattle.twolc_expressions.proofs.Made.{SoFar}
use Rattle.twolc_reader.specs.StatementReading.{symbol_in}
use Rattle.twolc_reader.proofs.Rows.{before, itself, made}
use Rattle.twolc_reader.proofs.list.symbols_of.Given as goal

abbrev pub invariant-tokens : goal.invariant-tokens
invariant-tokens l = SoFar (before itself) (made symbol_in) l.tokens l.placed-index l.found.items
