use Rattle.std.proofs.Common.{◌≡◌, ℕ, Some, false, true, ap, sym, subst, ◌∙◌}
use Rattle.std.specs.List.{slice_get}
use Rattle.std.proofs.lemmas.Option.{slice_get-get_or}
use Rattle.fsa_explore.proofs.Added.{Grows-none, Grows-then}
use Rattle.fsa_partial.proofs.search.add_finals.Goals as goal
use Rattle.fsa_partial.proofs.search.add_finals.Goals.{then-is_final+in_ok-add, else-is_final}

pub loop-state-init : goal.loop-state-init
loop-state-init c = Grows-none c.args.states.now (λ s. slice_get c.args.finals.now s ≡ Some true)

pub loop-state-preserved : goal.loop-state-preserved
loop-state-preserved c =
    let finals = c.args.finals.now in
    let i = c.loop-state.state in
    let Is : ℕ → Type 0 = λ s. slice_get finals s ≡ Some true in
    let at = slice_get-get_or finals i false c.loop-state-test.true in
    elim c.if-is_final.branch [
      | then-is_final+in_ok-add w ↦ rw w.states-is (Grows-then c.args.states.now c.loop-state.states w.add.new.self Is (λ k. k ≡ i) Is (λ k h. h)
          (λ k e. subst (λ j. slice_get finals j ≡ Some true) (sym e) (at ∙ ap Some w.if-is_final.true)) c.loop-state.invariant w.in_ok-add.ensures.ok.grows)
      | else-is_final w ↦ rw w.states-is c.loop-state.invariant
    ]
