use Rattle.std.specs.List.{Contains}
use Rattle.fsm_base.specs.declared.letters.Pair.{Pair}
use Rattle.fsm_base.specs.declared.letters.Bound.{Bound}
use Rattle.network_trials.proofs.grammar_atoms.letters_of.Given as goal

abbrev pub invariant-letters : goal.invariant-letters
invariant-letters l = (x : Bound Pair) → Contains l.found.items x → Contains l.letters x
