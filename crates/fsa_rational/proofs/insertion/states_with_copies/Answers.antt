use Rattle.fsa_rational.proofs.IgnoringLanguage.{copies_grow}
use Rattle.fsa_rational.proofs.insertion.states_with_copies.Goals as goal

pub loop-state-preserved : goal.loop-state-preserved
loop-state-preserved g c =
    rw (c.in_ok-extend_from_slice.ensures.items, c.deref.ensures.value, c.in_ok-copy.ensures.items_if_clones_equal (λ y h. h), c.loop-state.invariant) (copies_grow c.args.a.now.finals c.loop-state._state c.args.count)
