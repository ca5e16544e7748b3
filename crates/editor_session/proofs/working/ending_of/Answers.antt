use Rattle.std.proofs.Common.{sym, ap, ◌∙◌, ◌∷◌, arith}
use Rattle.std.proofs.lemmas.List.{take_all}
use Rattle.editor_session.specs.Endings.{endings_in, worst}
use Rattle.editor_session.proofs.Worst.{none_worse, worst_with, worst_without}
use Rattle.editor_session.proofs.working.ending_of.Goals.{in-Some, in-None}
use Rattle.editor_session.proofs.working.ending_of.Goals as goal

pub lanes-init : goal.lanes-init
lanes-init g c = sym (none_worse c.args.editor)

pub lanes-preserved : goal.lanes-preserved
lanes-preserved g c = elim c.match-ending.branch [
  | in-Some w ↦ w.ending-is ∙ w.worse-ending.ensures ∙ worst_with c.args.editor c.lanes.ending c.args.lanes.now c.lanes.lane-index c.lane-item.result c.lanes-test.true c.lane-item.is c.lanes.invariant w.in-Some.of_lane (sym c.ending.ensures ∙ w.in-Some.is)
  | in-None w ↦ w.ending-is ∙ worst_without c.args.editor c.lanes.ending c.args.lanes.now c.lanes.lane-index c.lane-item.result c.lanes-test.true c.lane-item.is c.lanes.invariant (sym c.ending.ensures ∙ w.in-None.is)
]

pub returns : goal.returns
returns g c = c.lanes.invariant ∙ ap (λ lanes. worst (c.args.editor ∷ endings_in lanes)) (take_all c.lanes.lane-index c.args.lanes.now (omega arith))
