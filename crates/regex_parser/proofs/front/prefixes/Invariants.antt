use Rattle.std.proofs.Common.{length}
use Rattle.regex_grammar.specs.Reading.{is_prefix, one_of, prefix_of}
use Rattle.regex_grammar.proofs.Loops.{ManySoFar}
use Rattle.regex_parser.proofs.front.prefixes.Given as goal

abbrev pub invariant-prefixes : goal.invariant-prefixes
invariant-prefixes l = ManySoFar is_prefix (one_of prefix_of) l.tokens l.found.items l.rest

abbrev pub decreases-prefixes : goal.decreases-prefixes
decreases-prefixes l = length l.rest
