use Rattle.std.proofs.Common.{◌≡◌, vec_len}
use Rattle.lookup.proofs.levels.levels.Given as goal

abbrev pub invariant-steps : goal.invariant-steps
invariant-steps g l = vec_len l.search.levels ≡ l.count
