use Rattle.std.proofs.Common.{sym, subst}
use Rattle.fsa_reduce.specs.Trimmed.{IsRenumbered}
use Rattle.fsa_reduce.proofs.Trims.{edges_more, edges_past, edges_all}
use Rattle.fsa_reduce.proofs.trimming.kept_edges.Goals as goal
use Rattle.fsa_reduce.proofs.trimming.kept_edges.Goals.{in-Some+in_ok-push, in_default}

pub renumbered-requires-clause-from : goal.renumbered-requires-clause-from
renumbered-requires-clause-from g c = (c.requires c.edge-item.result (c.loop-edge.edge-index, c.loop-edge-test.true, sym c.edge-item.is)).0

pub renumbered-requires-clause-to : goal.renumbered-requires-clause-to
renumbered-requires-clause-to g c = (c.requires c.edge-item.result (c.loop-edge.edge-index, c.loop-edge-test.true, sym c.edge-item.is)).1

pub loop-edge-preserved : goal.loop-edge-preserved
loop-edge-preserved g c =
    elim c.match-renumbered.branch [
      | in-Some+in_ok-push w ↦
          rw w.kept-is (edges_more c.args.numbers.now c.args.edges.now c.loop-edge.edge-index c.edge-item.result c.loop-edge-test.true c.loop-edge.kept.items w.push.new.self.items c.loop-edge.invariant w.in-Some.edge
          (subst (λ x. IsRenumbered c.args.numbers.now x w.in-Some.edge) c.edge-item.is w.in-Some.ensures) w.in_ok-push.ensures.items)
      | in_default w ↦
          rw w.kept-is (edges_past c.args.numbers.now c.args.edges.now c.loop-edge.edge-index c.edge-item.result c.loop-edge-test.true c.loop-edge.kept.items c.loop-edge.kept.items c.loop-edge.invariant
          (λ e h. w.in_default.ensures e (subst (λ x. IsRenumbered c.args.numbers.now x e) (sym c.edge-item.is) h)))
    ]

pub returns : goal.returns
returns g c = edges_all c.args.numbers.now c.args.edges.now c.loop-edge.edge-index c.loop-edge.kept.items c.loop-edge-test.false c.loop-edge.invariant
