use Rattle.std.proofs.Common.{take}
use Rattle.pair_test.specs.Ready.{IsContextTest, Pairwise}
use Rattle.pair_test.proofs.making.context_tests.Given as goal

-- the contexts so far
abbrev pub invariant-contexts : goal.invariant-contexts
invariant-contexts l = Pairwise (IsContextTest l.letters) (take l.context-index l.contexts) l.tests.items
