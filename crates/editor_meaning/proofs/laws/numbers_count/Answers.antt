use Rattle.project_sources.specs.Faults.{rows}
use Rattle.project_sources.specs.Laws.{all_readers}
use Rattle.editor_meaning.proofs.Changing.{numbers}
use Rattle.editor_meaning.proofs.laws.numbers_count.Goals as goal

pub returns : goal.returns
returns c = numbers all_readers rows
