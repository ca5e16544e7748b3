use Rattle.std.proofs.Common.{sym, arith, ◌∙◌}
use Rattle.std.proofs.lemmas.Bool.{false≢true}
use Rattle.lookup.proofs.Turning.{levels_more}
use Rattle.lookup.proofs.turns.misplaced.Goals as goal
use Rattle.lookup.proofs.turns.misplaced.Goals.{then-above-below-2, else-above-below-2}

pub bounds-levels-edge : goal.bounds-levels-edge
bounds-levels-edge g c = (c.requires c.edge-item.result (c.loop-edge.edge-index, c.loop-edge-test.true, sym c.edge-item.is)).0

pub bounds-levels-edge-in-loop-edge : goal.bounds-levels-edge-in-loop-edge
bounds-levels-edge-in-loop-edge g c = (c.requires c.edge-item.result (c.loop-edge.edge-index, c.loop-edge-test.true, sym c.edge-item.is)).1

pub offset_bounds-levels-edge : goal.offset_bounds-levels-edge
offset_bounds-levels-edge g c =
    let l = (c.requires c.edge-item.result (c.loop-edge.edge-index, c.loop-edge-test.true, sym c.edge-item.is)).0 in omega arith

pub offset_bounds-levels-edge-in-loop-edge : goal.offset_bounds-levels-edge-in-loop-edge
offset_bounds-levels-edge-in-loop-edge g c =
    let l = (c.requires c.edge-item.result (c.loop-edge.edge-index, c.loop-edge-test.true, sym c.edge-item.is)).1 in omega arith

pub loop-edge-preserved : goal.loop-edge-preserved
loop-edge-preserved g c =
    let edges = c.args.edges.now in
    levels_more c.args.levels.now edges c.loop-edge.edge-index c.edge-item.result c.loop-edge-test.true c.edge-item.is c.loop-edge.invariant c.if-above-below.false
    (λ some. elim c.if-above-below-2.branch [
      | then-above-below-2 w ↦ absurd (false≢true (sym c.if-is_some.false ∙ w.value-is ∙ w.is_some.ensures ∙ some))
      | else-above-below-2 w ↦ let h = w.if-above-below-2.false in let l = c.if-above-below.false in omega arith
    ])
