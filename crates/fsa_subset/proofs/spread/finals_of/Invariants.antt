use Rattle.std.proofs.Common.{take}
use Rattle.fsa_subset.specs.Partial.{AreFinal}
use Rattle.fsa_subset.proofs.spread.finals_of.Given as goal

abbrev pub invariant-sets : goal.invariant-sets
invariant-sets l = AreFinal l.finals (take l.number l.found.sets) l.marks.items
