use Rattle.twolc_expressions.specs.Views.{pair_view}
use Rattle.twolc_expressions.proofs.Made.{SoFar}
use Rattle.twolc_reader.specs.StatementReading.{pair_in}
use Rattle.twolc_reader.proofs.Rows.{before, made}
use Rattle.twolc_reader.proofs.list.pairs_in.Given as goal

abbrev pub invariant-tokens : goal.invariant-tokens
invariant-tokens l = SoFar (before pair_view) (made pair_in) l.tokens l.placed-index l.found.items
