use Rattle.std.proofs.Common.{get_or}
use Rattle.std.proofs.lemmas.Option.{slice_get-get_or}
use Rattle.fsa_reduce.proofs.Owned.{states_none, states_more, states_all}
use Rattle.fsa_reduce.proofs.merging.states_of.Goals as goal

pub loop-state-init : goal.loop-state-init
loop-state-init c = states_none c.args.classes.now c.args.count c.in_ok-states.states.items (c.in_ok-states.ensures.items_if_clones_equal (λ y h. h))

pub loop-state-preserved : goal.loop-state-preserved
loop-state-preserved c =
    let classes = c.args.classes.now in
    let i = c.loop-state.state in
    states_more classes c.args.count i (get_or classes i 0) c.loop-state.states.items (slice_get-get_or classes i 0 c.loop-state-test.true) (c.requires i 0 c.loop-state-test.true) c.loop-state.invariant

pub returns : goal.returns
returns c = states_all c.args.classes.now c.args.count c.loop-state.state c.loop-state.states.items c.loop-state-test.false c.loop-state.invariant
