use Rattle.lane_meaning.proofs.Growing.{lane_more}
use Rattle.lane_meaning.proofs.laws.lane_grows.Goals as goal

pub returns : goal.returns
returns g c values all entered budget left0 left held0 held ending prefix a = lane_more _ values all prefix entered entered (λ lines h. h) budget left0 left held0 held ending a
