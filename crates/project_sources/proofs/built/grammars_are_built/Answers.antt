use Rattle.project_sources.proofs.Grammars.{grammars_built}
use Rattle.project_sources.proofs.built.grammars_are_built.Goals as goal

pub returns : goal.returns
returns c = grammars_built
