use Rattle.std.proofs.Common.{◌≡◌, drop, false}
use Rattle.twolc_grammar.specs.Expressions.{has_high_power}
use Rattle.twolc_grammar.specs.Sections.{tokens_of}
use Rattle.twolc_expressions.proofs.tests.has_high_power.Given as goal

abbrev pub invariant-tokens : goal.invariant-tokens
invariant-tokens l = has_high_power l.power (tokens_of (drop l.placed-index l.tokens)) ≡ has_high_power false (tokens_of l.tokens)
