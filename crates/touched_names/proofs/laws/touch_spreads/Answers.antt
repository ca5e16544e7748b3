use Rattle.touched_names.proofs.Untouched.{touch_spreads}
use Rattle.touched_names.proofs.laws.touch_spreads.Goals as goal

pub returns : goal.returns
returns c = touch_spreads
