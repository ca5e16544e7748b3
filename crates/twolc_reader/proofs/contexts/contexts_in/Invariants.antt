use Rattle.std.proofs.Common.{length}
use Rattle.twolc_grammar.specs.Sections.{tokens_of}
use Rattle.twolc_reader.proofs.Rest.{SoFar}
use Rattle.twolc_reader.proofs.contexts.contexts_in.Given as goal

abbrev pub invariant-contexts : goal.invariant-contexts
invariant-contexts l = SoFar l.names (tokens_of l.tokens) (tokens_of l.rest) l.found.items

abbrev pub decreases-contexts : goal.decreases-contexts
decreases-contexts l = length l.rest
