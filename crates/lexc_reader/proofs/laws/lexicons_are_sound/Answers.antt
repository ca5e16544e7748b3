use Rattle.lexc_reader.proofs.Sound.{sound}
use Rattle.lexc_reader.proofs.laws.lexicons_are_sound.Goals as goal

pub returns : goal.returns
returns c = sound
