use Rattle.std.proofs.Common.{false, Some, ap, ◌∙◌}
use Rattle.std.proofs.lemmas.Option.{slice_get-get_or}
use Rattle.fsa_reduce.proofs.Trims.{finals_more, finals_past, finals_all}
use Rattle.fsa_reduce.proofs.trimming.add_finals.Goals as goal
use Rattle.fsa_reduce.proofs.trimming.add_finals.Goals.{then-is_final+in_ok-add, else-is_final}

pub loop-state-preserved : goal.loop-state-preserved
loop-state-preserved c =
    let at = slice_get-get_or c.args.finals.now c.loop-state.state false c.loop-state-test.true in
    elim c.if-is_final.branch [
      | then-is_final+in_ok-add w ↦
          rw w.states-is (finals_more c.args.finals.now c.loop-state.state c.args.states.now c.loop-state.states w.add.new.self (at ∙ ap Some w.if-is_final.true) c.loop-state.invariant w.in_ok-add.ensures.ok)
      | else-is_final w ↦
          rw w.states-is (finals_past c.args.finals.now c.loop-state.state c.args.states.now c.loop-state.states (at ∙ ap Some w.if-is_final.false) c.loop-state.invariant)
    ]

pub returns : goal.returns
returns c = finals_all c.args.finals.now c.loop-state.state c.args.states.now c.loop-state.states c.loop-state-test.false c.loop-state.invariant
