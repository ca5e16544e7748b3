use Rattle.std.proofs.Common.{◌≡◌, ◌<◌, ◌≤◌, ◌*◌, ◌^◌, ◌-◌, length}
use Rattle.fsa_minimal.specs.Folding.{IsFolding}
use Rattle.fsa_minimal.proofs.folding.folded.Given as goal

abbrev pub invariant-loop-met : goal.invariant-loop-met
invariant-loop-met g l =
    IsFolding (length l.a.finals) l.met.states.items l.next.items × (length l.next.items ≡ length l.finals.items * length l.a.letters) × (length l.finals.items ≤ length l.met.states.items) × (0 < length l.met.states.items) × (length l.met.numbers.items ≡ length l.initial.met.numbers.items)

abbrev pub decreases-loop-met : goal.decreases-loop-met
decreases-loop-met g l = 2 ^ 64 - length l.finals.items
