use Rattle.std.proofs.Common.{take}
use Rattle.lookup.specs.Reached.{AddsSteps}
use Rattle.lookup.specs.Steps.{Follows}
use Rattle.lookup.proofs.part.follow.Given as goal

abbrev pub invariant-loop-m : goal.invariant-loop-m
invariant-loop-m l = AddsSteps (Follows (take l.m-index l.moves) l.place) l.node l.initial.explored l.explored
