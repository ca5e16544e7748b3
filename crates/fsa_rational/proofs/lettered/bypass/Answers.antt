use Rattle.std.proofs.Common.{get_or, ap, ◌∙◌}
use Rattle.std.proofs.lemmas.List.{get_or_default}
use Rattle.fsa_rational.proofs.Bypassing.{bypassed_none, bypassed_more, bypassed_all}
use Rattle.fsa_rational.proofs.lettered.bypass.Goals as goal

pub loop-state-init : goal.loop-state-init
loop-state-init g c = (
  ap (λ m. m.bound) c.in_ok-reached.ensures ∙ c.states.ensures.number,
  bypassed_none c.args.rows.now c.args.a.now.finals c.args.states.now c.args.m.now c.requires.edges c.requires.finals,
)

pub reach-requires-clause-state : goal.reach-requires-clause-state
reach-requires-clause-state g c = rw c.loop-state.invariant.0 (c.requires.states c.loop-state.state-index 0 c.loop-state-test.true)

pub reach-requires-clause-within : goal.reach-requires-clause-within
reach-requires-clause-within g c = rw c.loop-state.invariant.0 c.requires.within

pub take_over-requires-clause-state : goal.take_over-requires-clause-state
take_over-requires-clause-state g c = rw c.loop-state.invariant.1.states (c.requires.states c.loop-state.state-index 0 c.loop-state-test.true)

pub take_over-requires-clause-states : goal.take_over-requires-clause-states
take_over-requires-clause-states g c = c.loop-state.invariant.1.states

pub take_over-requires-clause-within : goal.take_over-requires-clause-within
take_over-requires-clause-within g c = rw c.loop-state.invariant.1.states c.requires.within

pub take_over-requires-clause-reached : goal.take_over-requires-clause-reached
take_over-requires-clause-reached g c =
    let bound = c.in_ok-reach.ensures.bound ∙ c.loop-state.invariant.0 in
    let within = rw bound at c.found.ensures.bounded.within in
    rw (c.found.ensures.found, c.loop-state.invariant.1.states) within

pub loop-state-preserved : goal.loop-state-preserved
loop-state-preserved g c =
    let i = c.loop-state.state-index in
    let state = get_or c.args.states.now i 0 in (
      c.in_ok-reach.ensures.bound ∙ c.loop-state.invariant.0,
      bypassed_more c.args.rows.now c.args.a.now.finals c.args.states.now i state c.loop-state-test.true (get_or_default c.args.states.now i 0 state c.loop-state-test.true)
          c.found.result.now (rw c.found.ensures.found c.in_ok-reach.ensures.reached) c.loop-state.m c.take_over.new.m c.loop-state.invariant.1 c.in_ok-take_over.ensures,
    )

pub returns : goal.returns
returns g c = bypassed_all c.args.rows.now c.args.a.now.finals c.args.states.now c.loop-state.state-index c.loop-state.m c.loop-state-test.false c.loop-state.invariant.1
