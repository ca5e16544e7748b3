use Rattle.live_core.proofs.Runs.{all_first, all_later}
use Rattle.live_core.proofs.laws.published_values_stay.Goals as goal

pub returns : goal.returns
returns g c = λ s events. (all_first s events, all_later s events)
