use Rattle.std.proofs.Common.{◌≡◌, sym, refl}
use Rattle.std.specs.List.{Contains}
use Rattle.fsa_rational.specs.Shapes.{ComesFrom}
use Rattle.fsa_rational.proofs.Extended.{Extends-same, comes_more, each_all}
use Rattle.network_algebra.proofs.optional.add_edges.Goals as goal

pub add_edge-requires-clause-from : goal.add_edge-requires-clause-from
add_edge-requires-clause-from g c =
    rw c.loop-edge.invariant.finals (c.requires c.edge-item.result (c.loop-edge.edge-index, c.loop-edge-test.true, sym c.edge-item.is)).0

pub add_edge-requires-clause-to : goal.add_edge-requires-clause-to
add_edge-requires-clause-to g c =
    rw c.loop-edge.invariant.finals (c.requires c.edge-item.result (c.loop-edge.edge-index, c.loop-edge-test.true, sym c.edge-item.is)).1

pub loop-edge-preserved : goal.loop-edge-preserved
loop-edge-preserved g c =
    comes_more (λ e. e) c.args.edges.now c.loop-edge.edge-index c.edge-item.result c.loop-edge-test.true c.edge-item.is
    c.args.m.now c.loop-edge.m c.add_edge.new.self c.loop-edge.invariant c.in_ok-add_edge.ensures.ok

pub returns : goal.returns
returns g c =
    let edges = c.args.edges.now in
    Extends-same c.args.m.now c.loop-edge.m (ComesFrom (λ e. e) edges) (Contains edges) (λ e r. rw r.2 r.1) (λ e held. (e, held, refl))
    (each_all (λ x e. e ≡ x) edges c.loop-edge.edge-index c.args.m.now c.loop-edge.m c.loop-edge-test.false c.loop-edge.invariant)
