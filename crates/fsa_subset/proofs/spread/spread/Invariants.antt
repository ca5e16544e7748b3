use Rattle.std.proofs.Common.{◌≡◌}
use Rattle.fsa_subset.specs.Partial.{IsSpreadBy}
use Rattle.fsa_subset.proofs.spread.spread.Given as goal

abbrev pub invariant-sets : goal.invariant-sets
invariant-sets l = (l.reached.bound ≡ l.states) × IsSpreadBy l.rows l.states l.next l.found

abbrev pub decreases-sets : goal.decreases-sets
decreases-sets l = l.left
