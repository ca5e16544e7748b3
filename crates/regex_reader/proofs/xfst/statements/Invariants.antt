use Rattle.std.proofs.Common.{◌≡◌, length, map}
use Rattle.regex_reader.specs.Files.{statement_of}
use Rattle.regex_reader.specs.Verdicts.{placed}
use Rattle.regex_reader.proofs.Saying.{SoFar}
use Rattle.regex_reader.proofs.xfst.statements.Given as goal

abbrev pub invariant-statements : goal.invariant-statements
invariant-statements l = (length l.rest ≡ length l.rest_places) × SoFar (placed l.fn.tokens l.fn.places) (placed l.rest l.rest_places) l.ending (map statement_of l.defines.items)

abbrev pub decreases-statements : goal.decreases-statements
decreases-statements l = length l.rest
