use Rattle.std.proofs.Common.{◌≡◌, drop}
use Rattle.twolc_grammar.specs.Expressions.{has_edge}
use Rattle.twolc_grammar.specs.Sections.{tokens_of}
use Rattle.twolc_expressions.proofs.tests.has_edge.Given as goal

abbrev pub invariant-tokens : goal.invariant-tokens
invariant-tokens l = has_edge (tokens_of (drop l.placed-index l.tokens)) ≡ has_edge (tokens_of l.tokens)
