use Rattle.lane_meaning.proofs.Growing.{enters_each}
use Rattle.lane_meaning.proofs.laws.enters_for_each.Goals as goal

pub returns : goal.returns
returns g c values entered number answers lines bytes t = enters_each _ values entered number answers lines bytes t
