use Rattle.std.proofs.Common.{◌≡◌, map, not, take}
use Rattle.fsa_product.proofs.complements.turned.Given as goal

abbrev pub invariant-loop-is_final : goal.invariant-loop-is_final
invariant-loop-is_final l = l.turned.items ≡ map not (take l.is_final-index l.finals)
