use Rattle.std.proofs.Common.{◌≡◌, take, map, if◌then◌else◌}
use Rattle.fsa_partial.proofs.refining.classes_by_end.Given as goal

abbrev pub invariant-loop-is_final : goal.invariant-loop-is_final
invariant-loop-is_final l = l.classes.items ≡ map (λ is_final. if is_final then 1 else 0) (take l.is_final-index l.finals)
