use Rattle.std.proofs.Common.{take}
use Rattle.fsa_partial.proofs.Splits.{AreNumbered}
use Rattle.fsa_partial.proofs.refining.numbers_of.Given as goal

abbrev pub invariant-loop-arc : goal.invariant-loop-arc
invariant-loop-arc l = AreNumbered l.classes l.targets l.first (take l.arc-index l.arcs) l.pairs l.numbers.items
