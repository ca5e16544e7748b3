use Rattle.std.proofs.Common.{take}
use Rattle.pair_test.specs.Marks.{AreAt}
use Rattle.pair_test.specs.Tests.{edge_before, placed_letters}
use Rattle.pair_test.proofs.spelling.places_of.Given as goal

-- the places so far
abbrev pub invariant-pairs : goal.invariant-pairs
invariant-pairs l = AreAt (placed_letters l.set.keys) l.places.items (edge_before (take l.pair-index l.word))
