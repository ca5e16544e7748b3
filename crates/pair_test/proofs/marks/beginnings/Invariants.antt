use Rattle.std.proofs.Common.{◌<◌, List, length}
use Rattle.fsm_base.specs.declared.letters.Bound.{Bound}
use Rattle.fsm_base.specs.declared.letters.Pair.{Pair}
use Rattle.pair_test.specs.Marks.{AreAt}
use Rattle.pair_test.proofs.Running.{IsRun}
use Rattle.pair_test.proofs.marks.beginnings.Given as goal

-- the state that the word has led to, and the marks so far
abbrev pub invariant-places : goal.invariant-places
invariant-places l =
    (l.state < length l.language.finals)
    × ((word : List (Bound Pair)) → AreAt l.language.letters l.places word → IsRun l.language word l.place-index l.state l.marks.items)
