use Rattle.network_algebra.proofs.repeating.+exactly.Given as goal

abbrev pub decreases-exactly : goal.decreases-exactly
decreases-exactly g l = l.count
