use Rattle.std.proofs.Common.{All, take}
use Rattle.std.specs.List.{Contains}
use Rattle.name_order.specs.Graph.{graph_of}
use Rattle.name_order.specs.Visits.{AreVisits, Extends, count_new}
use Rattle.name_order.proofs.visit.+visit.Given as goal

abbrev pub decreases-visit : goal.decreases-visit
decreases-visit l = count_new l.visits.now.marks.items

-- the places so far were visited
abbrev pub invariant-below : goal.invariant-below
invariant-below l = record {
  visits : AreVisits (graph_of l.references) l.visits;
  extends : Extends l.initial.visits l.visits;
  done : All (Contains l.visits.order.items) (take l.below-index l.below-items);
}
