use Rattle.std.proofs.Common.{take}
use Rattle.fsa_reduce.specs.Numbering.{AreNumbered}
use Rattle.fsa_reduce.proofs.numbering.number_letters.Given as goal

abbrev pub invariant-loop-edge : goal.invariant-loop-edge
invariant-loop-edge g l = AreNumbered (take l.edge-index l.edges) l.letters.items l.numbered.items
