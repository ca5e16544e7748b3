use Rattle.touched_names.proofs.SamePlaces.{SameSoFar}
use Rattle.touched_names.proofs.changes.same_texts.Given as goal

-- the marks so far
abbrev pub invariant-texts : goal.invariant-texts
invariant-texts l = SameSoFar l.texts l.others l.place l.marks.items
