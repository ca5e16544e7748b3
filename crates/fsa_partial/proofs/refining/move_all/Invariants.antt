use Rattle.std.proofs.Common.{take}
use Rattle.fsa_partial.specs.Splitting.{IsMoved}
use Rattle.fsa_partial.proofs.refining.move_all.Given as goal

abbrev pub invariant-loop-place : goal.invariant-loop-place
invariant-loop-place l = IsMoved (take l.place l.arcs) l.numbers l.initial.classes.items l.classes.items
