use Rattle.project_sources.specs.Faults.{rows}
use Rattle.project_sources.specs.Laws.{all_readers}
use Rattle.project_sources.proofs.Once.{all_exact}
use Rattle.editor_meaning.proofs.Together.{one_turn}
use Rattle.editor_meaning.proofs.laws.one_turn.Goals as goal

pub returns : goal.returns
returns c = one_turn all_readers rows all_exact
