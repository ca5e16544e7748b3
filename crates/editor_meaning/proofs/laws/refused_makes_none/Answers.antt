use Rattle.project_sources.specs.Faults.{rows}
use Rattle.project_sources.specs.Laws.{all_readers}
use Rattle.project_sources.proofs.Once.{all_exact}
use Rattle.editor_meaning.proofs.Changing.{refused_makes_none}
use Rattle.editor_meaning.proofs.laws.refused_makes_none.Goals as goal

pub returns : goal.returns
returns c = refused_makes_none all_readers rows all_exact
