use Rattle.std.proofs.Common.{ℕ, ◌<◌}
use Rattle.std.specs.List.{Contains}
use Rattle.name_order.specs.Graph.{graph_of}
use Rattle.name_order.specs.Visits.{AreVisits, IsOpen}
use Rattle.name_order.proofs.order.order_of.Given as goal

-- the places so far are done
abbrev pub invariant-places : goal.invariant-places
invariant-places l = record {
  visits : AreVisits (graph_of l.references) l.visits;
  none_open : (place : ℕ) → IsOpen l.visits place → ⊥;
  done : (place : ℕ) → place < l.place → Contains l.visits.order.items place;
}
