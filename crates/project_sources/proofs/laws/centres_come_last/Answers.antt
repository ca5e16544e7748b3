use Rattle.project_sources.specs.Faults.{read_rows}
use Rattle.project_sources.specs.Laws.{all_readers}
use Rattle.project_sources.proofs.Sound.{centres_come_last}
use Rattle.project_sources.proofs.laws.centres_come_last.Goals as goal

pub returns : goal.returns
returns c = centres_come_last all_readers read_rows
