use Rattle.lane_session.proofs.lanes.answer_rest.Goals as goal

pub returns : goal.returns
returns g c i d before stop below has is =
    let e = (c.for_each_mut.ensures i d below).1 in
    rw (← e.argument_is, ← e.left) (e.call before stop (rw e.argument_is has) is)
