use Rattle.std.specs.List.{Contains}
use Rattle.fsm_base.specs.declared.letters.Sym.{Sym}
use Rattle.fsm_base.specs.declared.letters.Bound.{Bound}
use Rattle.network_trials.proofs.replace_parts.found_in.Given as goal

abbrev pub invariant-letters : goal.invariant-letters
invariant-letters l = (x : Bound Sym) → Contains l.found.items x → Contains l.letters x
