use Rattle.std.proofs.Common.{◌≡◌, length}
use Rattle.fsa_explore.proofs.alike.column_numbers.Given as goal

abbrev pub invariant-loop-state : goal.invariant-loop-state
invariant-loop-state g l = length l.numbers.items ≡ length l.a.letters

abbrev pub invariant-loop-place : goal.invariant-loop-place
invariant-loop-place g l = length l.numbers.items ≡ length l.a.letters
