use Rattle.project_sources.proofs.Filed.{same_files}
use Rattle.project_sources.proofs.sources.SourcesClone.clone.Goals as goal

pub returns : goal.returns
returns c = record { cases = rw (← c.self.view_is) (same_files c.self.inside.files.entries c.in_ok-clone.field-0.entries c.in_ok-clone.ensures.cases) }
