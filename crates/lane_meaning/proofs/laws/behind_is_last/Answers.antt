use Rattle.lane_meaning.proofs.AtLast.{line_at_last, rest_at_last}
use Rattle.lane_meaning.proofs.laws.behind_is_last.Goals as goal

pub returns : goal.returns
returns g c = record { line = line_at_last g.V.Replying.replies; transcript = rest_at_last g.V.Replying.replies }
