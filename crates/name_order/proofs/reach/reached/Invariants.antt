use Rattle.std.proofs.Common.{◌-◌, length}
use Rattle.name_order.specs.Found.{AreGrowing}
use Rattle.name_order.specs.Graph.{graph_of}
use Rattle.name_order.proofs.reach.reached.Given as goal

abbrev pub invariant-numbers : goal.invariant-numbers
invariant-numbers l = AreGrowing (graph_of l.references) l.start l.number l.found

abbrev pub decreases-numbers : goal.decreases-numbers
decreases-numbers l = length l.references - l.number
