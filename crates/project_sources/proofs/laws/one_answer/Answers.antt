use Rattle.project_sources.specs.Laws.{all_readers}
use Rattle.project_sources.proofs.Once.{one_answer, all_exact}
use Rattle.project_sources.proofs.laws.one_answer.Goals as goal

pub returns : goal.returns
returns c files = one_answer all_readers all_exact files
