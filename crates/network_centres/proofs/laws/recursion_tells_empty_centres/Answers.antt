use Rattle.network_centres.proofs.EmptyCentres.{recursion_tells}
use Rattle.network_centres.proofs.laws.recursion_tells_empty_centres.Goals as goal

pub returns : goal.returns
returns c = recursion_tells
