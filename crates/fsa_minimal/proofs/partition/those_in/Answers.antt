use Rattle.std.proofs.Common.{◌≡◌, ℕ, Some, get_or, sym, ◌∙◌}
use Rattle.std.specs.List.{slice_get}
use Rattle.std.proofs.lemmas.Bool.{false≢true}
use Rattle.std.proofs.lemmas.Option.{slice_get-get_or}
use Rattle.fsa_minimal.proofs.Kept.{Keeps-more, Keeps-past, Keeps-all}
use Rattle.fsa_minimal.proofs.partition.those_in.Goals as goal
use Rattle.fsa_minimal.proofs.partition.those_in.Goals.{then-is_in+in_ok-push, else-is_in}

pub loop-state-preserved : goal.loop-state-preserved
loop-state-preserved c =
    let P : ℕ → Type 0 = λ s. slice_get c.args.class_of.now s ≡ Some c.args.class in
    let i = c.loop-state.state-index in
    let states = c.args.states.now in
    let x = get_or states i 0 in
    let at = slice_get-get_or states i 0 c.loop-state-test.true in
    let now = c.loop-state.members.items in
    elim c.if-is_in.branch [
      | then-is_in+in_ok-push w ↦ rw w.members-is (Keeps-more P states now i x at c.loop-state.invariant w.push.new.self.items w.in_ok-push.ensures.items (c.is_in.ensures.0 w.if-is_in.true))
      | else-is_in w ↦ rw w.members-is (Keeps-past P states now i x at c.loop-state.invariant (λ p. false≢true (sym w.if-is_in.false ∙ c.is_in.ensures.1 p)))
    ]

pub returns : goal.returns
returns c = Keeps-all (λ s. slice_get c.args.class_of.now s ≡ Some c.args.class) c.args.states.now c.loop-state.members.items c.loop-state.state-index c.loop-state-test.false c.loop-state.invariant
