use Rattle.std.proofs.Common.{◌≡◌, ◌<◌, Some, length, subst, sym, ap, inl, inr, arith, ◌∙◌}
use Rattle.fsa.specs.Complete.{next_state}
use Rattle.fsa_minimal.specs.Fewest.{AreReachedBelow}
use Rattle.fsa_minimal.proofs.Fewest.{reached_more}
use Rattle.fsa_minimal.proofs.checking.reached_from.Goals as goal

pub loop-place-preserved : goal.loop-place-preserved
loop-place-preserved g c =
    let a = c.args.a.now in
    let state = c.args.state in
    let place = c.loop-place.place in
    let below = c.loop-place.below in
    let inside : place < length a.letters = subst (λ ls. place < length ls) c.letters-place-end.ensures.letters c.loop-place-test.true in
    let more = c.loop-place.invariant.more in
    let there = c.loop-place.invariant.there in
    let within = c.next.ensures.within in
    elim c.more_reached-below.ensures [
      | inl e ↦ record { more = omega arith; there = omega arith; reached = subst (AreReachedBelow a) (sym e) c.loop-place.invariant.reached }
      | inr p ↦
          let e = p.0 in
          let t = p.1 in
          let before = c.requires.state in
          let goes : next_state a state place ≡ Some below = c.next.ensures.next ∙ ap Some t in
          record { more = omega arith; there = omega arith; reached = subst (AreReachedBelow a) (sym e) (reached_more a c.letters-place-end.ensures.complete state place below inside (omega arith) goes c.loop-place.invariant.reached) }
    ]
