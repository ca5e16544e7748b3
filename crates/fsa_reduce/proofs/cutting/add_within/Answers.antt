use Rattle.std.proofs.Common.{◌≡◌, refl, sym, subst}
use Rattle.std.specs.List.{Contains}
use Rattle.fsa_rational.specs.Shapes.{ForEach}
use Rattle.fsa_rational.proofs.Extended.{Extends-push, Extends-same, each_more, each_all}
use Rattle.fsa_reduce.proofs.cutting.add_within.Goals as goal

pub loop-edge-preserved : goal.loop-edge-preserved
loop-edge-preserved g c =
    each_more (λ x e. e ≡ x) c.args.edges.now c.loop-edge.edge-index c.edge-item.result c.loop-edge-test.true c.edge-item.is c.args.m.now c.loop-edge.m c.add_edge.new.self
    c.loop-edge.invariant (Extends-push c.loop-edge.m c.add_edge.new.self c.edge-item.result c.in_ok-add_edge.ensures.ok)

pub returns : goal.returns
returns g c = λ all.
    let edges = c.args.edges.now in
    Extends-same c.args.m.now c.loop-edge.m (ForEach (λ x e. e ≡ x) edges) (Contains edges)
    (λ e r. subst (Contains edges) (sym r.2) r.1) (λ e h. (e, h, refl))
    (each_all (λ x e. e ≡ x) edges c.loop-edge.edge-index c.args.m.now c.loop-edge.m c.loop-edge-test.false c.loop-edge.invariant)
