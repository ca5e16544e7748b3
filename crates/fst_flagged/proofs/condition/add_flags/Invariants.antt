use Rattle.std.proofs.Common.{◌≡◌, ◌++◌, map, take}
use Rattle.fst_flagged.specs.Images.{condition_of}
use Rattle.fst_flagged.proofs.condition.add_flags.Given as goal

abbrev pub invariant-loop-flag : goal.invariant-loop-flag
invariant-loop-flag l = l.conditions.items ≡ l.initial.conditions.items ++ map (condition_of l.run) (take l.flag-index l.flags)
