use Rattle.std.proofs.Common.{◌≤◌, length, sym, arith, ◌∙◌}
use Rattle.std.proofs.lemmas.Bool.{false≢true}
use Rattle.fsa_minimal.proofs.Apart.{finals_more, finals_past, finals_apart}
use Rattle.fsa_minimal.proofs.refining.final_states.Goals as goal
use Rattle.fsa_minimal.proofs.refining.final_states.Goals.{then-is_final+in_ok-add, else-is_final}

pub loop-state-preserved : goal.loop-state-preserved
loop-state-preserved g c =
    let finals = c.args.a.now.finals in
    let i = c.loop-state.state in
    elim c.if-is_final.branch [
      | then-is_final+in_ok-add w ↦ rw w.marked-is (record {
        bound = w.in_ok-add.ensures.ok.grows.bound ∙ c.loop-state.invariant.bound;
        finals = finals_more finals i c.loop-state.marked w.add.new.self (c.is_final.ensures.0 w.if-is_final.true) c.loop-state.invariant.finals w.in_ok-add.ensures.ok;
      })
      | else-is_final w ↦ rw w.marked-is (record {
        bound = c.loop-state.invariant.bound;
        finals = finals_past finals i c.loop-state.marked.found (λ h. false≢true (sym w.if-is_final.false ∙ c.is_final.ensures.1 h)) c.loop-state.invariant.finals;
      })
    ]

pub returns-clause-apart : goal.returns-clause-apart
returns-clause-apart g c =
    let past : length c.args.a.now.finals ≤ c.loop-state.state = let n = c.states-state-end.ensures.number in let t = c.loop-state-test.false in omega arith in
    finals_apart c.args.a.now c.loop-state.state c.loop-state.marked.found past c.loop-state.invariant.finals
