use Rattle.std.proofs.Common.{◌↔◌, ℕ, IsTrue, get_or, sym, ◌∙◌}
use Rattle.std.specs.List.{Contains}
use Rattle.std.proofs.lemmas.Bool.{false≢true}
use Rattle.std.proofs.lemmas.Option.{slice_get-get_or}
use Rattle.fsa_minimal.proofs.Kept.{Keeps-more, Keeps-past, Keeps-all}
use Rattle.fsa_minimal.proofs.partition.those_with.Goals as goal
use Rattle.fsa_minimal.proofs.partition.those_with.Goals.{then-is_as+in_ok-push, else-is_as}

pub loop-state-preserved : goal.loop-state-preserved
loop-state-preserved c =
    let P : ℕ → Type 0 = λ s. IsTrue c.args.are_marked ↔ Contains c.args.marked.now.found s in
    let i = c.loop-state.state-index in
    let states = c.args.states.now in
    let x = get_or states i 0 in
    let at = slice_get-get_or states i 0 c.loop-state-test.true in
    let now = c.loop-state.part.items in
    elim c.if-is_as.branch [
      | then-is_as+in_ok-push w ↦ rw w.part-is (Keeps-more P states now i x at c.loop-state.invariant w.push.new.self.items w.in_ok-push.ensures.items (c.is_as.ensures.0 w.if-is_as.true))
      | else-is_as w ↦ rw w.part-is (Keeps-past P states now i x at c.loop-state.invariant (λ p. false≢true (sym w.if-is_as.false ∙ c.is_as.ensures.1 p)))
    ]

pub returns : goal.returns
returns c = Keeps-all (λ s. IsTrue c.args.are_marked ↔ Contains c.args.marked.now.found s) c.args.states.now c.loop-state.part.items c.loop-state.state-index c.loop-state-test.false c.loop-state.invariant
