use Rattle.std.proofs.Common.{◌-◌}
use Rattle.fsa_product.specs.Search.{IsSearch}
use Rattle.fsa_product.proofs.search.first_final.Given as goal

abbrev pub invariant-loop-number : goal.invariant-loop-number
invariant-loop-number g l = IsSearch l.a l.number l.search.reached l.search.steps.items

abbrev pub decreases-loop-number : goal.decreases-loop-number
decreases-loop-number g l = l.search.reached.bound - l.number
