use Rattle.std.proofs.Common.{length, map}
use denote.Shadow.{shadow}
use denote.Text.{Utf8}
use Rattle.twolc_expressions.specs.Views.{pair_view}
use Rattle.pair_lines.proofs.Strings.{ReadSoFar}
use Rattle.pair_lines.proofs.read.read_pairs.Given as goal

abbrev pub invariant-pairs : goal.invariant-pairs
invariant-pairs l = ReadSoFar l.line l.rest (map pair_view l.pairs.items) × shadow (Utf8 l.rest)

abbrev pub decreases-pairs : goal.decreases-pairs
decreases-pairs l = length l.rest
