use Rattle.std.proofs.Common.{take}
use Rattle.fsa_subset.specs.Sets.{AreMoves}
use Rattle.fsa_subset.proofs.subsets.moves_from.Given as goal

abbrev pub invariant-loop-state : goal.invariant-loop-state
invariant-loop-state l = AreMoves l.rows (take l.state-index l.set) l.moves.items
