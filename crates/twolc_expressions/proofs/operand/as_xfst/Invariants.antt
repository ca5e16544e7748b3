use Rattle.twolc_expressions.proofs.Tokens.{SoFar}
use Rattle.twolc_expressions.proofs.operand.as_xfst.Given as goal

abbrev pub invariant-tokens : goal.invariant-tokens
invariant-tokens l = SoFar l.tokens l.placed-index l.power l.found.items
