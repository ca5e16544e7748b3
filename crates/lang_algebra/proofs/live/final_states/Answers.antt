use Rattle.std.proofs.Common.{false, Some, ap, ◌∙◌}
use Rattle.std.proofs.lemmas.Option.{slice_get-get_or}
use Rattle.lang_algebra.proofs.Alive.{finals_none, finals_more, finals_past, finals_all}
use Rattle.lang_algebra.proofs.live.final_states.Goals as goal
use Rattle.lang_algebra.proofs.live.final_states.Goals.{then-is_final+in_ok-add, else-is_final}

pub loop-state-init : goal.loop-state-init
loop-state-init c = finals_none c.args.finals.now c.in_ok-states.states c.in_ok-states.ensures

pub add-requires : goal.add-requires
add-requires c = rw c.loop-state.invariant.bound c.loop-state-test.true

pub loop-state-preserved : goal.loop-state-preserved
loop-state-preserved c =
    let finals = c.args.finals.now in
    let i = c.loop-state.state in
    let at = slice_get-get_or finals i false c.loop-state-test.true in
    elim c.if-is_final.branch [
      | then-is_final+in_ok-add w ↦ rw w.states-is (finals_more finals i c.loop-state.states w.add.new.self (at ∙ ap Some w.if-is_final.true) c.loop-state.invariant w.in_ok-add.ensures.ok)
      | else-is_final w ↦ rw w.states-is (finals_past finals i c.loop-state.states (at ∙ ap Some w.if-is_final.false) c.loop-state.invariant)
    ]

pub returns-clause-bound : goal.returns-clause-bound
returns-clause-bound c = c.loop-state.invariant.bound

pub returns-clause-states : goal.returns-clause-states
returns-clause-states c = finals_all c.args.finals.now c.loop-state.state c.loop-state.states c.loop-state-test.false c.loop-state.invariant
