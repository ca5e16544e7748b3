use Rattle.project_sources.proofs.Expressions.{expressions_built}
use Rattle.project_sources.proofs.built.expressions_are_built.Goals as goal

pub returns : goal.returns
returns c = expressions_built
