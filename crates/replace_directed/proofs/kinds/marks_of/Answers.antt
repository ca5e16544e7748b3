use Rattle.std.proofs.Common.{◌≡◌, true, false, sym, ap, subst, ◌∙◌}
use Rattle.std.proofs.lemmas.List.{take_all}
use Rattle.directed_words.specs.Kinds.{is_of}
use Rattle.replace_directed.proofs.Picked.{ArePicked, picked_step, picked_skip}
use Rattle.replace_directed.proofs.kinds.marks_of.Goals as goal
use Rattle.replace_directed.proofs.kinds.marks_of.Goals.{then-has+in_ok-push, else-has}

pub loop-mark-preserved : goal.loop-mark-preserved
loop-mark-preserved c =
    let marks = c.args.marks.now in
    let i = c.loop-mark.mark-index in
    elim c.if-has.branch [
      | then-has+in_ok-push w ↦
          picked_step (λ m. is_of c.args.kind m ≡ true) marks c.loop-mark.found.items _ i _ c.loop-mark-test.true c.loop-mark.invariant (sym c.has.ensures ∙ w.if-has.true) (ap (λ v. v.items) w.found-is ∙ w.in_ok-push.ensures.items)
      | else-has w ↦
          picked_skip (λ m. is_of c.args.kind m ≡ true) marks c.loop-mark.found.items _ i _ c.loop-mark-test.true c.loop-mark.invariant (λ is. let clash : true ≡ false = sym is ∙ sym c.has.ensures ∙ w.if-has.false in cc) (ap (λ v. v.items) w.found-is)
    ]

pub returns : goal.returns
returns c =
    let marks = c.args.marks.now in
    subst (λ front. ArePicked (λ m. is_of c.args.kind m ≡ true) front c.loop-mark.found.items) (take_all c.loop-mark.mark-index marks c.loop-mark-test.false) c.loop-mark.invariant
