use Rattle.network_lexicons.proofs.Placed.{place_missing}
use Rattle.network_lexicons.proofs.names.Names.place_of.Goals as goal

pub returns-in-None : goal.returns-in-None
returns-in-None c = rw (← c.self.view_is) (place_missing c.args.name.now c.self.inside.texts c.in-None.ensures)
