use Rattle.live_core.proofs.Runs.{refusal}
use Rattle.live_core.proofs.laws.refusals_change_nothing.Goals as goal

pub returns : goal.returns
returns g c = refusal
