use Rattle.std.proofs.Common.{take}
use Rattle.fsa_explore.specs.Marks.{Adds}
use Rattle.fsa_explore.specs.Targets.{IsTarget}
use Rattle.fsa_explore.proofs.closure.add_targets.Given as goal

abbrev pub invariant-loop-edge : goal.invariant-loop-edge
invariant-loop-edge g l = Adds l.initial.states l.states (IsTarget (take l.edge-index l.edges) l.letter)
