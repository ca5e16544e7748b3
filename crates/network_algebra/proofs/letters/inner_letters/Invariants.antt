use Rattle.std.proofs.Common.{◌≡◌, map, take}
use Rattle.fsm_base.specs.declared.letters.Bound.TheVariants.{Inner}
use Rattle.network_algebra.proofs.letters.inner_letters.Given as goal

abbrev pub invariant-loop-symbol : goal.invariant-loop-symbol
invariant-loop-symbol l = l.letters.items ≡ map Inner (take l.symbol-index l.symbols)
