use Rattle.std.proofs.Common.{◌≡◌, Some}
use Rattle.std.specs.List.{slice_get}
use Rattle.fsa_product.specs.Search.{IsSearch, HasNext}
use Rattle.fsa_product.proofs.search.reach_next.Given as goal

abbrev pub invariant-loop-place : goal.invariant-loop-place
invariant-loop-place g l =
    IsSearch l.a l.number l.search.reached l.search.steps.items × (slice_get l.search.reached.found l.number ≡ Some l.state) × HasNext l.a l.state l.place l.search.reached.found
