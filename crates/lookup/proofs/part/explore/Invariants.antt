use Rattle.std.proofs.Common.{◌-◌, ◌^◌}
use Rattle.lookup.specs.Steps.{Steps}
use Rattle.lookup.specs.Reached.{IsExplored}
use Rattle.lookup.proofs.part.explore.Given as goal

abbrev pub invariant-configs : goal.invariant-configs
invariant-configs l = IsExplored (Steps l.table l.finals l.word) l.next l.explored

abbrev pub decreases-configs : goal.decreases-configs
decreases-configs l = 2 ^ 63 - l.next
