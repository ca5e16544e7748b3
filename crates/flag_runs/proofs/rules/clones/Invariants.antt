use Rattle.std.proofs.Common.{◌≡◌, take}
use Rattle.flag_runs.proofs.rules.clones.Given as goal

abbrev pub invariant-loop-condition : goal.invariant-loop-condition
invariant-loop-condition l = l.kept.items ≡ take l.condition-index l.conditions
