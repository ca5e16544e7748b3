use Rattle.std.proofs.Common.{sym, ◌∙◌}
use Rattle.std.specs.List.{Contains}
use Rattle.std.proofs.lemmas.Bool.{false≢true}
use Rattle.fsa.specs.declared.automaton.Edge.{Edge}
use Rattle.lookup.proofs.KeptPaths.{kept_all, kept_more, kept_past}
use Rattle.lookup.proofs.kept.between.Goals as goal
use Rattle.lookup.proofs.kept.between.Goals.{then-contains+then-contains-2+in_ok-push, else-contains, else-contains-via-then-contains+else-contains-2, else-contains-via-else-contains}

pub contains-requires : goal.contains-requires
contains-requires g c = (c.requires.left c.edge-item.result (c.loop-edge.edge-index, c.loop-edge-test.true, sym c.edge-item.is)).0

pub contains-requires-then-contains : goal.contains-requires-then-contains
contains-requires-then-contains g c = (c.requires.entered c.edge-item.result (c.loop-edge.edge-index, c.loop-edge-test.true, sym c.edge-item.is)).1

pub loop-edge-preserved : goal.loop-edge-preserved
loop-edge-preserved g c =
    let edges = c.args.edges.now in
    let i = c.loop-edge.edge-index in
    let kept = c.loop-edge.kept.items in
    let e = c.edge-item.result in
    let P : Edge g.row.L.Denot → Type 0 = λ x. Contains c.args.left.now.found x.from × Contains c.args.entered.now.found x.to in
    elim c.if-contains.branch [
      | then-contains+then-contains-2+in_ok-push w ↦
          rw (w.kept-is, w.in_ok-push.ensures.items)
          (kept_more edges P i kept c.loop-edge.invariant e c.loop-edge-test.true c.edge-item.is (c.contains.ensures.0 w.if-contains.true, w.contains-then-contains.ensures.0 w.if-contains-2.true))
      | else-contains w ↦
          rw w.kept-is
          (kept_past edges P i kept c.loop-edge.invariant e c.loop-edge-test.true c.edge-item.is
          (elim w.else-contains.branch [
            | else-contains-via-then-contains+else-contains-2 v ↦ λ h. false≢true (sym v.if-contains-2.false ∙ v.contains-then-contains.ensures.1 h.1)
            | else-contains-via-else-contains v ↦ λ h. false≢true (sym v.if-contains.false ∙ c.contains.ensures.1 h.0)
          ]))
    ]

pub returns : goal.returns
returns g c =
    kept_all c.args.edges.now (λ e. Contains c.args.left.now.found e.from × Contains c.args.entered.now.found e.to) c.loop-edge.edge-index c.loop-edge.kept.items c.loop-edge-test.false c.loop-edge.invariant
