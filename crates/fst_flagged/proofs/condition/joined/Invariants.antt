use Rattle.std.proofs.Common.{◌≡◌, ◌++◌, take}
use Rattle.fst_flagged.proofs.condition.joined.Given as goal

abbrev pub invariant-loop-condition : goal.invariant-loop-condition
invariant-loop-condition l = l.copies.items ≡ l.front ++ take l.condition-index l.rest
