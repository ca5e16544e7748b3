use Rattle.std.proofs.Common.{◌-◌, ◌^◌}
use Rattle.lang_equal.specs.Pairs.{IsPairSearch}
use Rattle.lang_equal.proofs.search.Pairs.first_sought.Given as goal

abbrev pub invariant-loop-number : goal.invariant-loop-number
invariant-loop-number g l = IsPairSearch l.self.sought l.self.first.now l.self.second.now l.number l.search.reached.keys l.search.steps.items

abbrev pub decreases-loop-number : goal.decreases-loop-number
decreases-loop-number g l = 2 ^ 64 - l.number
