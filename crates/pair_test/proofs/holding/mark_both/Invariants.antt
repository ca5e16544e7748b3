use Rattle.std.proofs.Common.{◌⊎◌}
use Rattle.pair_test.specs.Marks.{IsMarked}
use Rattle.pair_test.proofs.Places.{AreMarkedBelow, BothAt}
use Rattle.pair_test.proofs.holding.mark_both.Given as goal

-- the places so far are marked, and the others are as before
abbrev pub invariant-places : goal.invariant-places
invariant-places l = AreMarkedBelow (λ k. IsMarked l.fn.marks.items k ⊎ BothAt l.before l.behind l.fn.marks.items l.count k) l.place l.fn.marks.items l.marks.items
