use Rattle.std.proofs.Common.{take}
use Rattle.lookup.specs.Turns.{AreLevels}
use Rattle.lookup.proofs.turns.misplaced.Given as goal

abbrev pub invariant-loop-edge : goal.invariant-loop-edge
invariant-loop-edge g l = AreLevels (take l.edge-index l.edges) l.levels
