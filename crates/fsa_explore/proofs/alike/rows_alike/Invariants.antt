use Rattle.fsa_explore.proofs.Grouping.{AreGrouped, HasSignature}
use Rattle.fsa_explore.proofs.alike.rows_alike.Given as goal

abbrev pub invariant-loop-place : goal.invariant-loop-place
invariant-loop-place l = AreGrouped (HasSignature l.rows) l.place l.found l.firsts.items
