use Rattle.std.proofs.Common.{◌≡◌, ◌+◌, ◌<◌, ℕ, Some}
use Rattle.std.specs.List.{slice_get}
use Rattle.fsa.specs.declared.automaton.Edge.{Edge}
use Rattle.flag_diacritics.specs.declared.tape.Tape.{Tape}
use Rattle.lexc_compile.proofs.chains.is_in_order.Given as goal

abbrev pub invariant-loop-place : goal.invariant-loop-place
invariant-loop-place l = (k : ℕ) (e : Edge Tape) → k < l.place → slice_get l.edges k ≡ Some e → (e.from ≡ k) × (e.to ≡ k + 1)
