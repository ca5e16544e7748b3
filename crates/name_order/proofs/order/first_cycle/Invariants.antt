use Rattle.std.proofs.Common.{ℕ, ◌<◌}
use Rattle.name_order.specs.Graph.{graph_of, Reaches}
use Rattle.name_order.proofs.order.first_cycle.Given as goal

-- no place so far reaches itself
abbrev pub invariant-places : goal.invariant-places
invariant-places l = (before : ℕ) → before < l.place → Reaches (graph_of l.references) before before → ⊥
