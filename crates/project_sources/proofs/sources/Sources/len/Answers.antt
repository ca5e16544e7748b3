use Rattle.project_sources.proofs.Filed.{distinct_names}
use Rattle.project_sources.proofs.sources.Sources.len.Goals as goal

pub returns-clause-apart : goal.returns-clause-apart
returns-clause-apart c = rw (← c.self.view_is) (distinct_names c.self.inside.files.entries c.len.ensures.unique)
