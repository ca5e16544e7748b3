use Rattle.live_core.proofs.Told.{never_fall}
use Rattle.live_core.proofs.laws.numbers_never_fall.Goals as goal

pub returns : goal.returns
returns g c = never_fall
