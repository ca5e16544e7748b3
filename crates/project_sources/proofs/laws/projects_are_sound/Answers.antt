use Rattle.project_sources.specs.Laws.{all_readers}
use Rattle.project_sources.proofs.Sound.{sound, sound_read}
use Rattle.project_sources.proofs.laws.projects_are_sound.Goals as goal

pub returns : goal.returns
returns c = record { whole = sound all_readers; read = sound_read all_readers }
