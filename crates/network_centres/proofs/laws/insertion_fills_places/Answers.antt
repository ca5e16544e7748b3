use Rattle.network_centres.proofs.Insertions.{insertion_fills_places}
use Rattle.network_centres.proofs.laws.insertion_fills_places.Goals as goal

pub returns : goal.returns
returns c = insertion_fills_places
