use Rattle.std.proofs.Common.{◌≤◌, vec_len}
use Rattle.morph.proofs.lanes_of.Given as goal

abbrev pub invariant-paths : goal.invariant-paths
invariant-paths l = vec_len l.lanes ≤ l.i
