use Rattle.std.proofs.Common.{length}
use Rattle.twolc_reader.proofs.Loops.{SoFar}
use Rattle.twolc_reader.proofs.reader.grammar_of.Given as goal

abbrev pub invariant-statements : goal.invariant-statements
invariant-statements l = SoFar l.tokens l.rest l.ending l.stage l.grammar l.names

abbrev pub decreases-statements : goal.decreases-statements
decreases-statements l = length l.rest
