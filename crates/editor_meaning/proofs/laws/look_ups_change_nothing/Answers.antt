use Rattle.project_sources.specs.Faults.{rows}
use Rattle.project_sources.specs.Laws.{all_readers}
use Rattle.editor_meaning.proofs.Together.{nothing_changed}
use Rattle.editor_meaning.proofs.laws.look_ups_change_nothing.Goals as goal

pub returns : goal.returns
returns c = nothing_changed all_readers rows
