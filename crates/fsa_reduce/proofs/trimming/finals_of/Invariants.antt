use Rattle.std.proofs.Common.{◌≡◌, map, take, get_or, false}
use Rattle.fsa_reduce.proofs.trimming.finals_of.Given as goal

abbrev pub invariant-loop-state : goal.invariant-loop-state
invariant-loop-state l = l.kept_finals.items ≡ map (λ state. get_or l.finals state false) (take l.state-index l.kept)
