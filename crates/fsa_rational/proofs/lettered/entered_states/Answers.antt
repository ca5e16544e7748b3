use Rattle.std.proofs.Common.{◌≡◌, sym, subst, ◌∙◌}
use Rattle.std.specs.List.{Contains}
use Rattle.std.proofs.lemmas.List.{take_all}
use Rattle.fsa_explore.proofs.Added.{Grows-keeps}
use Rattle.fsa_rational.proofs.Bypassing.{entered_more, entered_past}
use Rattle.fsa_rational.proofs.lettered.entered_states.Goals as goal
use Rattle.fsa_rational.proofs.lettered.entered_states.Goals.{then-is_some+in_ok-add-2, else-is_some}

pub add-requires-then-is_some : goal.add-requires-then-is_some
add-requires-then-is_some g c =
    let held : Contains c.edges-edge-items.result.now c.edge-item.result = (c.loop-edge.edge-index, c.loop-edge-test.true, sym c.edge-item.is) in
    let there = rw c.edges-edge-items.ensures.edges at held in
    rw c.loop-edge.invariant.0 (c.edges-edge-items.ensures.formed.within c.edge-item.result there).1

pub loop-edge-preserved : goal.loop-edge-preserved
loop-edge-preserved g c =
    elim c.if-is_some.branch [
      | then-is_some+in_ok-add-2 w ↦
          let now = c.loop-edge.states in
          let new = w.add-then-is_some.new.self in
          let adds = w.in_ok-add-2.ensures.ok in
          rw w.states-is (
            adds.grows.bound ∙ c.loop-edge.invariant.0,
            Grows-keeps now new (λ k. k ≡ c.edge-item.result.to) adds.grows 0 c.loop-edge.invariant.1,
            entered_more c.edges-edge-items.result.now c.loop-edge.edge-index c.edge-item.result c.loop-edge-test.true c.edge-item.is now c.loop-edge.invariant.2 new adds,
          )
      | else-is_some w ↦
          rw w.states-is (
            c.loop-edge.invariant.0,
            c.loop-edge.invariant.1,
            entered_past c.edges-edge-items.result.now c.loop-edge.edge-index c.edge-item.result c.loop-edge-test.true c.edge-item.is c.loop-edge.states c.loop-edge.invariant.2
                (sym c.is_some.ensures ∙ w.if-is_some.false),
          )
    ]

pub returns-clause-targets : goal.returns-clause-targets
returns-clause-targets g c = λ e x h reads.
    let whole = take_all c.loop-edge.edge-index c.edges-edge-items.result.now c.loop-edge-test.false in
    let held = subst (λ es. Contains es e) (sym (whole ∙ c.edges-edge-items.ensures.edges)) h in
    c.loop-edge.invariant.2 e x held reads
