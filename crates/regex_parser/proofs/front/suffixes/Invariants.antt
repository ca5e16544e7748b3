use Rattle.std.proofs.Common.{length}
use Rattle.regex_grammar.specs.Reading.{is_level, suffix_at}
use Rattle.regex_grammar.proofs.Loops.{ManySoFar}
use Rattle.regex_parser.proofs.front.suffixes.Given as goal

abbrev pub invariant-suffixes : goal.invariant-suffixes
invariant-suffixes l = ManySoFar (is_level 4) suffix_at l.tokens l.found.items l.rest

abbrev pub decreases-suffixes : goal.decreases-suffixes
decreases-suffixes l = length l.rest
