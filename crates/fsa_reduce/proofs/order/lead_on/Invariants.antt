use Rattle.std.proofs.Common.{◌≡◌, ◌<◌, ℕ, Some, slice_get}
use Rattle.fsa.specs.declared.automaton.Edge.{Edge}
use Rattle.fsa_reduce.proofs.order.lead_on.Given as goal

abbrev pub invariant-loop-edge : goal.invariant-loop-edge
invariant-loop-edge g l = (k : ℕ) (e : Edge g.row.L.Denot) → k < l.edge-index → slice_get l.edges k ≡ Some e → e.from < e.to
