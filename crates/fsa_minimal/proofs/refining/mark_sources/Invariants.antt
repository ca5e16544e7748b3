use Rattle.std.proofs.Common.{◌≡◌, ◌≤◌, ℕ, length}
use Rattle.fsa_minimal.proofs.Chained.{IsMarked}
use Rattle.fsa_minimal.proofs.Chains.{left_of}
use Rattle.fsa_minimal.proofs.refining.mark_sources.Given as goal

abbrev pub invariant-loop-next : goal.invariant-loop-next
invariant-loop-next g l = (l.marked.bound ≡ length l.a.finals) × ((bound : ℕ) × (IsMarked l.a l.inverse.place l.state l.fn.marked.found l.marked.found bound l.next × (bound ≤ length l.a.finals)))

abbrev pub decreases-loop-next : goal.decreases-loop-next
decreases-loop-next g l = left_of l.next
