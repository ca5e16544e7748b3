use Rattle.std.proofs.Common.{length}
use Rattle.two_level.proofs.places.+in_contexts.Given as goal

abbrev pub decreases-in_contexts : goal.decreases-in_contexts
decreases-in_contexts l = length l.contexts.now
