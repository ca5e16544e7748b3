use Rattle.project_sources.proofs.Bodies.{bodies_built}
use Rattle.project_sources.proofs.built.bodies_are_built.Goals as goal

pub returns : goal.returns
returns c = bodies_built
