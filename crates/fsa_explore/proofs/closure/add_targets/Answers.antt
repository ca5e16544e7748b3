use Rattle.std.proofs.Common.{sym, ◌∙◌}
use Rattle.std.proofs.lemmas.Bool.{false≢true}
use Rattle.std.proofs.lemmas.Result.{err_from_is_err_and}
use Rattle.fsa_explore.proofs.TargetsLemmas.{targets_more, targets_past, targets_some}
use Rattle.fsa_explore.proofs.closure.add_targets.Goals as goal
use Rattle.fsa_explore.proofs.closure.add_targets.Goals.{then-is_same+in_ok-add, else-is_same}

pub add-requires : goal.add-requires
add-requires g c =
    rw c.loop-edge.invariant.grows.bound (c.requires c.edge-item.result (c.loop-edge.edge-index, c.loop-edge-test.true, sym c.edge-item.is))

pub returns-in_err-add-clause-err : goal.returns-in_err-add-clause-err
returns-in_err-add-clause-err g c =
    let p = err_from_is_err_and c.from_residual.result c.from_residual.ensures.1 in
    rw (p.1, c.in_err-add.ensures.err) (targets_some c.args.edges.now c.args.letter c.loop-edge.edge-index c.args.states.now c.loop-edge.states c.loop-edge.invariant)

pub loop-edge-preserved : goal.loop-edge-preserved
loop-edge-preserved g c =
    elim c.if-is_same.branch [
      | then-is_same+in_ok-add w ↦
          rw w.states-is (targets_more c.args.edges.now c.args.letter c.loop-edge.edge-index c.edge-item.result c.loop-edge-test.true c.edge-item.is
          c.args.states.now c.loop-edge.states w.add.new.self (c.is_same.ensures.0 w.if-is_same.true) c.loop-edge.invariant w.in_ok-add.ensures.ok)
      | else-is_same w ↦
          rw w.states-is (targets_past c.args.edges.now c.args.letter c.loop-edge.edge-index c.edge-item.result c.loop-edge-test.true c.edge-item.is
          c.args.states.now c.loop-edge.states (λ e. false≢true (sym w.if-is_same.false ∙ c.is_same.ensures.1 e)) c.loop-edge.invariant)
    ]
