use Rattle.std.proofs.Common.{sym, ◌∙◌}
use Rattle.fsa_rational.specs.Shapes.{IsLettered}
use Rattle.fsa_rational.proofs.Extended.{each_more, each_past}
use Rattle.fsa_rational.proofs.Bypassing.{lettered_push, no_letter}
use Rattle.fsa_rational.proofs.lettered.add_lettered.Goals as goal
use Rattle.fsa_rational.proofs.lettered.add_lettered.Goals.{then-is_some+in_ok-add_edge, else-is_some}

pub add_edge-requires-clause-to : goal.add_edge-requires-clause-to
add_edge-requires-clause-to g c =
    rw c.loop-edge.invariant.finals (c.requires.within c.edge-item.result (c.loop-edge.edge-index, c.loop-edge-test.true, sym c.edge-item.is))

pub loop-edge-preserved : goal.loop-edge-preserved
loop-edge-preserved g c =
    elim c.if-is_some.branch [
      | then-is_some+in_ok-add_edge w ↦
          rw w.m-is (each_more (IsLettered c.args.from) c.args.edges.now c.loop-edge.edge-index c.edge-item.result c.loop-edge-test.true c.edge-item.is
          c.args.m.now c.loop-edge.m w.add_edge.new.self c.loop-edge.invariant
          (lettered_push c.args.from c.edge-item.result c.loop-edge.m w.add_edge.new.self (sym c.is_some.ensures ∙ w.if-is_some.true) w.in_ok-add_edge.ensures.ok))
      | else-is_some w ↦
          rw w.m-is (each_past (IsLettered c.args.from) c.args.edges.now c.loop-edge.edge-index c.edge-item.result c.loop-edge-test.true c.edge-item.is
          c.args.m.now c.loop-edge.m (λ f r. no_letter c.edge-item.result.letter (sym c.is_some.ensures ∙ w.if-is_some.false) r.0 r.1) c.loop-edge.invariant)
    ]
