use Rattle.live_core.proofs.Runs.{enter_at}
use Rattle.live_core.proofs.laws.enter_answers_last.Goals as goal

pub returns : goal.returns
returns g c = enter_at
