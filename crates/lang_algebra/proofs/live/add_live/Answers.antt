use Rattle.std.proofs.Common.{◌≡◌, refl, sym, subst, ◌∙◌}
use Rattle.std.specs.List.{Contains}
use Rattle.std.proofs.lemmas.Bool.{false≢true}
use Rattle.fsa_rational.specs.Shapes.{ForEach}
use Rattle.fsa_rational.proofs.Extended.{Extends-push, Extends-same, each_more, each_past, each_all}
use Rattle.lang_algebra.proofs.Alive.{EntersOne}
use Rattle.lang_algebra.proofs.live.add_live.Goals as goal
use Rattle.lang_algebra.proofs.live.add_live.Goals.{then-contains+in_ok-add_edge, else-contains}

pub contains-requires : goal.contains-requires
contains-requires g c =
    let held : Contains c.args.edges.now c.edge-item.result = (c.loop-edge.edge-index, c.loop-edge-test.true, sym c.edge-item.is) in
    rw c.requires.bound (c.requires.within c.edge-item.result held).1

pub add_edge-requires-clause-from : goal.add_edge-requires-clause-from
add_edge-requires-clause-from g c =
    let held : Contains c.args.edges.now c.edge-item.result = (c.loop-edge.edge-index, c.loop-edge-test.true, sym c.edge-item.is) in
    rw c.loop-edge.invariant.finals (c.requires.within c.edge-item.result held).0

pub add_edge-requires-clause-to : goal.add_edge-requires-clause-to
add_edge-requires-clause-to g c =
    let held : Contains c.args.edges.now c.edge-item.result = (c.loop-edge.edge-index, c.loop-edge-test.true, sym c.edge-item.is) in
    rw c.loop-edge.invariant.finals (c.requires.within c.edge-item.result held).1

pub loop-edge-preserved : goal.loop-edge-preserved
loop-edge-preserved g c =
    let found = c.args.live.now.found in
    let edges = c.args.edges.now in
    let i = c.loop-edge.edge-index in
    let x = c.edge-item.result in
    let now = c.loop-edge.m in
    elim c.if-contains.branch [
      | then-contains+in_ok-add_edge w ↦
          let new = w.add_edge.new.self in
          rw w.m-is (each_more (EntersOne found) edges i x c.loop-edge-test.true c.edge-item.is c.args.m.now now new c.loop-edge.invariant
          (Extends-same now new (λ e. e ≡ x) (EntersOne found x) (λ e same. (same, c.contains.ensures.0 w.if-contains.true)) (λ e p. p.0) (Extends-push now new x w.in_ok-add_edge.ensures.ok)))
      | else-contains w ↦
          rw w.m-is (each_past (EntersOne found) edges i x c.loop-edge-test.true c.edge-item.is c.args.m.now now
          (λ e p. false≢true (sym w.if-contains.false ∙ c.contains.ensures.1 p.1)) c.loop-edge.invariant)
    ]

pub returns : goal.returns
returns g c =
    let found = c.args.live.now.found in
    let edges = c.args.edges.now in
    Extends-same c.args.m.now c.loop-edge.m (ForEach (EntersOne found) edges) (λ e. Contains edges e × Contains found e.to)
    (λ e r. (subst (Contains edges) (sym r.2.0) r.1, subst (λ y. Contains found y.to) (sym r.2.0) r.2.1))
    (λ e p. (e, p.0, (refl, p.1)))
    (each_all (EntersOne found) edges c.loop-edge.edge-index c.args.m.now c.loop-edge.m c.loop-edge-test.false c.loop-edge.invariant)
