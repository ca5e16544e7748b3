use Rattle.fsa_explore.proofs.Grouping.{AreGrouped, HasPair}
use Rattle.fsa_explore.proofs.alike.alike_in_both.Given as goal

abbrev pub invariant-loop-place : goal.invariant-loop-place
invariant-loop-place l = AreGrouped (HasPair l.a l.b) l.place l.found l.firsts.items
