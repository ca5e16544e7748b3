use Rattle.lookup.proofs.Nodes.{Closes}
use Rattle.lookup.proofs.conditions.add_closing.Given as goal

abbrev pub invariant-states : goal.invariant-states
invariant-states l = Closes l.finals l.state l.initial.edges.items l.edges.items
