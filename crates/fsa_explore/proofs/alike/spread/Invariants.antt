use Rattle.fsa_explore.specs.Alike.{IsSpread}
use Rattle.fsa_explore.proofs.alike.spread.Given as goal

abbrev pub invariant-loop-state : goal.invariant-loop-state
invariant-loop-state l = IsSpread l.built.next.items l.count l.of_places l.state l.spread.items
