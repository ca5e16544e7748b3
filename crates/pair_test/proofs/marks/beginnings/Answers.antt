use Rattle.std.proofs.lemmas.Option.{slice_get-get_or}
use Rattle.pair_test.proofs.Running.{run_more}
use Rattle.pair_test.proofs.marks.beginnings.Goals as goal

pub places-preserved : goal.places-preserved
places-preserved c = (
  c.next-state.ensures.within,
  λ word are. run_more c.args.language.now word c.letters-letters.ensures.complete.distinct c.args.places.now are c.places.place-index c.places.state c.places.marks.items (c.places.invariant.1 word are) _ c.next-state.result c.places-test.true
      (slice_get-get_or c.args.places.now c.places.place-index _ c.places-test.true) c.next-state.ensures.next c.is_final.result c.is_final.ensures c.push.new.self.items c.in_ok-push.ensures.items,
)
