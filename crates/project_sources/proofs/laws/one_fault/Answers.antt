use Rattle.project_sources.specs.Laws.{all_readers}
use Rattle.project_sources.proofs.Once.{one_fault, all_exact}
use Rattle.project_sources.proofs.laws.one_fault.Goals as goal

pub returns : goal.returns
returns c files = one_fault all_readers all_exact files
