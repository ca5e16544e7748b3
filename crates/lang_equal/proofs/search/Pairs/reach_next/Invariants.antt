use Rattle.std.proofs.Common.{◌≡◌, Some}
use Rattle.std.specs.List.{slice_get}
use Rattle.lang_equal.specs.Pairs.{IsPairSearch, HasNext}
use Rattle.lang_equal.proofs.search.Pairs.reach_next.Given as goal

abbrev pub invariant-loop-place : goal.invariant-loop-place
invariant-loop-place g l =
    IsPairSearch l.self.sought l.self.first.now l.self.second.now l.number l.search.reached.keys l.search.steps.items
    × (slice_get l.search.reached.keys l.number ≡ Some l.pair)
    × HasNext l.self.first.now l.self.second.now l.pair l.place l.search.reached.keys
