use Rattle.name_order.proofs.Adding.{adds_more}
use Rattle.name_order.proofs.reach.Found.add_all.Goals as goal

pub places-preserved : goal.places-preserved
places-preserved c = adds_more c.args.places.now c.places.place-index c.args.self.now c.places.self c.add.new.self c.places-test.true c.places.invariant c.in_ok-add.ensures
