use Rattle.std.proofs.Common.{◌+◌, ℕ, Bool, false, List, Some, Vec, Global, sym, ap, subst, ◌∙◌, arith}
use Rattle.std.proofs.lemmas.Option.{slice_get-get_or}
use Rattle.touched_names.proofs.Marking.{AreBelow, below_marked, below_plain, below_to_end}
use Rattle.touched_names.proofs.places.marked_places.Goals as goal
use Rattle.touched_names.proofs.places.marked_places.Goals.{then-mark+in_ok-push, else-mark}

pub marks-preserved : goal.marks-preserved
marks-preserved c = elim c.if-mark.branch [
  | then-mark+in_ok-push w ↦
      subst (λ (z : List ℕ). AreBelow c.args.marks.now (c.marks.place + 1) z) (sym (ap (λ (v : Vec ℕ Global). v.items) w.places-is ∙ w.in_ok-push.ensures.items))
      (below_marked c.args.marks.now c.marks.place c.marks.places.items c.marks.invariant (slice_get-get_or c.args.marks.now c.marks.place false c.marks-test.true ∙ ap (λ (b : Bool). Some b) w.if-mark.true))
  | else-mark w ↦
      subst (λ (z : List ℕ). AreBelow c.args.marks.now (c.marks.place + 1) z) (sym (ap (λ (v : Vec ℕ Global). v.items) w.places-is))
      (below_plain c.args.marks.now c.marks.place c.marks.places.items c.marks.invariant (slice_get-get_or c.args.marks.now c.marks.place false c.marks-test.true ∙ ap (λ (b : Bool). Some b) w.if-mark.false))
]

pub returns : goal.returns
returns c = below_to_end c.args.marks.now c.marks.place c.marks.places.items (omega arith) c.marks.invariant
