use Rattle.std.proofs.Common.{◌≡◌, ◌<◌, List, ◌++◌, Some, length, reverse}
use Rattle.std.specs.List.{slice_get}
use Rattle.lang_equal.specs.Search.{AreWordsOf}
use Rattle.lang_equal.proofs.search.word_of.Given as goal

abbrev pub invariant-loop-at : goal.invariant-loop-at
invariant-loop-at g l =
    (l.at < length l.steps) × ((words : List (List g.row.L.Denot)) → AreWordsOf l.letters l.steps words → (v : List g.row.L.Denot) × (slice_get words l.at ≡ Some v) × (slice_get words l.number ≡ Some (v ++ reverse l.word.items)))

abbrev pub decreases-loop-at : goal.decreases-loop-at
decreases-loop-at g l = l.at
