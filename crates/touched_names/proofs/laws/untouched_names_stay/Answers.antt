use Rattle.touched_names.proofs.Keeping.{untouched_names_stay}
use Rattle.touched_names.proofs.laws.untouched_names_stay.Goals as goal

pub returns : goal.returns
returns c = untouched_names_stay
