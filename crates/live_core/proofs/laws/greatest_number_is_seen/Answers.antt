use Rattle.live_core.proofs.Told.{greatest_seen}
use Rattle.live_core.proofs.laws.greatest_number_is_seen.Goals as goal

pub returns : goal.returns
returns g c = greatest_seen
