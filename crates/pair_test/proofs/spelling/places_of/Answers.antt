use Rattle.pair_test.proofs.Placed.{at_pair}
use Rattle.pair_test.proofs.spelling.places_of.Goals as goal

pub pairs-preserved : goal.pairs-preserved
pairs-preserved c =
    at_pair c.args.set.now.keys c.pairs.places.items c.push-in-pairs.new.self.items c.args.word.now c.pairs.pair-index _ c.place_in.result c.pairs-test.true c.pairs.invariant c.place_in.ensures c.in_ok-push-2.ensures.items
