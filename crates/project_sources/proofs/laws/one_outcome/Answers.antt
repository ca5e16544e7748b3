use Rattle.project_sources.proofs.Editing.{one_outcome}
use Rattle.project_sources.proofs.laws.one_outcome.Goals as goal

pub returns : goal.returns
returns c = one_outcome
