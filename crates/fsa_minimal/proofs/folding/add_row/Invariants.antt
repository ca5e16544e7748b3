use Rattle.std.proofs.Common.{◌≡◌, ◌≤◌, ◌+◌, length}
use Rattle.fsa_minimal.specs.Folding.{IsFolding}
use Rattle.fsa_minimal.proofs.folding.add_row.Given as goal

abbrev pub invariant-loop-place : goal.invariant-loop-place
invariant-loop-place g l =
    (length l.met.numbers.items ≡ length l.fn.met.numbers.items) × IsFolding (length l.a.finals) l.met.states.items l.next.items × (length l.next.items ≡ length l.fn.next.items + l.place) × (length l.fn.met.states.items ≤ length l.met.states.items)
