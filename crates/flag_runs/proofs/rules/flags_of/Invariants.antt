use Rattle.std.proofs.Common.{◌≡◌, take}
use Rattle.flag_runs.specs.Runs.{flags_in}
use Rattle.flag_runs.proofs.rules.flags_of.Given as goal

abbrev pub invariant-loop-condition : goal.invariant-loop-condition
invariant-loop-condition l = l.flags.items ≡ flags_in (take l.condition-index l.conditions)
