use Rattle.std.proofs.Common.{◌≤◌, vec_len}
use Rattle.morph.proofs.paths_at.Given as goal

abbrev pub invariant-paths : goal.invariant-paths
invariant-paths l = vec_len l.paths ≤ l.i
