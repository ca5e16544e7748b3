use Rattle.std.proofs.Common.{◌+◌, false, Some, ap, ◌∙◌}
use Rattle.std.proofs.lemmas.Option.{slice_get-get_or}
use Rattle.fsa_rational.specs.Shapes.{epsilon}
use Rattle.fsa_rational.proofs.Extended.{finals_more, finals_past, finals_all}
use Rattle.fsa_rational.proofs.extend.leave_finals.Goals as goal
use Rattle.fsa_rational.proofs.extend.leave_finals.Goals.{then-is_final+in_ok-add_epsilon, else-is_final}

pub loop-state-preserved : goal.loop-state-preserved
loop-state-preserved g c =
    let at = slice_get-get_or c.args.finals.now c.loop-state.state false c.loop-state-test.true in
    elim c.if-is_final.branch [
      | then-is_final+in_ok-add_epsilon w ↦
          rw w.m-is (finals_more (λ q. epsilon (q + c.args.by) c.args.to) c.args.finals.now c.loop-state.state c.args.m.now c.loop-state.m w.add_epsilon.new.m
          (at ∙ ap Some w.if-is_final.true) c.loop-state.invariant w.in_ok-add_epsilon.ensures)
      | else-is_final w ↦
          rw w.m-is (finals_past (λ q. epsilon (q + c.args.by) c.args.to) c.args.finals.now c.loop-state.state c.args.m.now c.loop-state.m (at ∙ ap Some w.if-is_final.false) c.loop-state.invariant)
    ]

pub returns : goal.returns
returns g c = finals_all (λ q. epsilon (q + c.args.by) c.args.to) c.args.finals.now c.loop-state.state c.args.m.now c.loop-state.m c.loop-state-test.false c.loop-state.invariant
