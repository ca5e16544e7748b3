use Rattle.std.proofs.Common.{◌≡◌, vec_len}
use Rattle.lookup.proofs.levels.Search.close.Given as goal

abbrev pub invariant-nodes : goal.invariant-nodes
invariant-nodes l = vec_len l.self.levels ≡ vec_len l.initial.self.levels

abbrev pub decreases-nodes : goal.decreases-nodes
decreases-nodes l = vec_len l.self.open
