use Rattle.std.proofs.Common.{◌≤◌, Some, length, ap, subst, arith, ◌∙◌}
use Rattle.fsa_minimal.proofs.Images.{GoesOnBelow-more, same_bools, same_flags}
use Rattle.fsa_minimal.proofs.checking.goes_on_as.Goals as goal

pub loop-place-preserved : goal.loop-place-preserved
loop-place-preserved g c =
    GoesOnBelow-more c.args.a.now c.args.b.now c.args.images.now c.args.state c.args.image c.loop-place.place c.next.result c.next-in-loop-place.result
    c.next.ensures.next (c.in-Some.ensures ∙ ap (λ u. Some (Some u)) c.if-to-next.false) c.next-in-loop-place.ensures.next c.loop-place.invariant

pub returns : goal.returns
returns g c = λ _. record {
  final = same_flags c.args.a.now.finals c.args.b.now.finals c.args.state c.args.image c.is_final.result c.is_final-2.result
      c.requires.state c.requires.image c.is_final.ensures c.is_final-2.ensures (same_bools _ _ c.if-is_final.false);
  step = λ place to inside go. c.loop-place.invariant place to
      (let end : length c.args.a.now.letters ≤ c.loop-place.place = subst (λ ls. length ls ≤ c.loop-place.place) c.letters-place-end.ensures.letters c.loop-place-test.false in omega arith) go;
}
