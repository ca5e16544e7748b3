use Rattle.project_sources.specs.Faults.{rows}
use Rattle.project_sources.specs.Laws.{all_readers}
use Rattle.project_sources.proofs.Once.{all_exact}
use Rattle.editor_meaning.proofs.Together.{one_transcript}
use Rattle.editor_meaning.proofs.laws.one_transcript.Goals as goal

pub returns : goal.returns
returns c = one_transcript all_readers rows all_exact
