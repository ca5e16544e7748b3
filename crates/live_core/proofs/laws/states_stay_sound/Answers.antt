use Rattle.live_core.proofs.Runs.{sound_opened, sound_after}
use Rattle.live_core.proofs.laws.states_stay_sound.Goals as goal

pub returns : goal.returns
returns g c = (sound_opened, sound_after)
