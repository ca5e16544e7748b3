use Rattle.project_sources.proofs.Lexicons.{lexicons_built}
use Rattle.project_sources.proofs.built.lexicons_are_built.Goals as goal

pub returns : goal.returns
returns c = lexicons_built
