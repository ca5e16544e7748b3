use Rattle.std.proofs.Common.{◌+◌, ◌-◌, take, length}
use Rattle.pair_test.specs.Marks.{AreMarks}
use Rattle.pair_test.specs.Tests.{HoldsRound}
use Rattle.pair_test.proofs.holding.holding.Given as goal

-- the fillings round which one of the contexts so far holds are marked
abbrev pub invariant-contexts : goal.invariant-contexts
invariant-contexts l = AreMarks (HoldsRound (take l.context-index l.contexts) l.spelled.word.now l.width) (length l.spelled.word.now + 1 - l.width) l.marks.items
