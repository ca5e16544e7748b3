use Rattle.std.proofs.Common.{◌≡◌, map, take}
use Rattle.fst_flagged.proofs.condition.flags_of.Given as goal

abbrev pub invariant-loop-condition : goal.invariant-loop-condition
invariant-loop-condition l = l.flags.items ≡ map (λ condition. condition.flag) (take l.condition-index l.conditions)
