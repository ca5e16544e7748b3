use Rattle.std.proofs.Common.{◌<◌, All, length}
use Rattle.fsa_rational.proofs.Walks.{same_elements}
use Rattle.fsa_reduce.proofs.epsilon.is_cheap.Goals as goal

pub edges_from-requires-clause-state : goal.edges_from-requires-clause-state
edges_from-requires-clause-state g c =
    let within = rw c.in_ok-entered.ensures.bound at c.found-state-items.ensures.bounded.within in
    let items : All (λ k. k < length c.args.a.now.finals) c.found-state-items.result.now = rw c.found-state-items.ensures.found within in
    rw c.loop-state.invariant (items c.loop-state.state-index 0 c.loop-state-test.true)

pub edges_from-requires-clause-within : goal.edges_from-requires-clause-within
edges_from-requires-clause-within g c = λ e h.
    let a = c.args.a.now in
    let moved = rw c.edges.ensures.edges at c.in_ok-rows.ensures in
    rw c.loop-state.invariant (c.edges.ensures.formed.within e ((same_elements a.edges c.in_ok-rows.rows moved e).0 h)).1
