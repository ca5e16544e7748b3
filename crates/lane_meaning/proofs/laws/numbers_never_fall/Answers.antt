use Rattle.lane_meaning.proofs.Growing.{never_falls}
use Rattle.lane_meaning.proofs.laws.numbers_never_fall.Goals as goal

pub returns : goal.returns
returns g c values entered seen answered number answers lines bytes t = never_falls _ values entered seen answered number answers lines bytes t
