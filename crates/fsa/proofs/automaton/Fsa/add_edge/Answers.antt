use Rattle.fsa.proofs.Formed.{IsWellFormed-add_edge}
use Rattle.fsa.proofs.automaton.Fsa.add_edge.Goals as goal

pub invariant_of-self-2 : goal.invariant_of-self-2
invariant_of-self-2 g c =
    let r = rw (← c.self.view_is) at c.requires in
    rw c.in_ok-push.ensures.items (IsWellFormed-add_edge _ c.args.edge c.self.invariant r.from r.to)
