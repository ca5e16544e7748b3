use Rattle.network_centres.proofs.EmptyCentres.{empty_centres_unfold}
use Rattle.network_centres.proofs.laws.empty_centres_unfold.Goals as goal

pub returns : goal.returns
returns c = empty_centres_unfold
