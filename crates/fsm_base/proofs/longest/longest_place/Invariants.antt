use Rattle.std.proofs.Common.{length}
use Rattle.fsm_base.specs.Sorted.{texts_in}
use Rattle.fsm_base.proofs.OrderLemmas.{IsNarrowed}
use Rattle.fsm_base.proofs.longest.longest_place.Given as goal

abbrev pub invariant-fronts : goal.invariant-fronts
invariant-fronts l = IsNarrowed (texts_in l.entries) l.bytes l.front

abbrev pub decreases-fronts : goal.decreases-fronts
decreases-fronts l = length l.front
