use Rattle.std.proofs.Common.{◌≡◌, map, take}
use Rattle.fsm_base.specs.declared.letters.Bound.TheVariants.{Inner}
use Rattle.replace_rules.proofs.alike.inside.Given as goal

abbrev pub invariant-loop-sym : goal.invariant-loop-sym
invariant-loop-sym l = l.bounds.items ≡ map Inner (take l.sym-index l.syms)
