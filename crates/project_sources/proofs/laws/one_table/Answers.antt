use Rattle.project_sources.specs.Laws.{all_readers}
use Rattle.project_sources.proofs.Glossing.{one_table, some_table}
use Rattle.project_sources.proofs.Once.{all_exact}
use Rattle.project_sources.proofs.laws.one_table.Goals as goal

pub returns : goal.returns
returns c = record { one = one_table all_readers all_exact; some = some_table all_readers }
