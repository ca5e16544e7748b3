use Rattle.std.proofs.Common.{ℕ, ◌<◌, Contains}
use Rattle.fsa_partial.proofs.search.has_all.Given as goal

abbrev pub invariant-loop-number : goal.invariant-loop-number
invariant-loop-number l = (s : ℕ) → s < l.number → Contains l.set.found s
