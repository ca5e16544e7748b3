use Rattle.std.proofs.Common.{◌≤◌, vec_len}
use Rattle.worked_rows.proofs.row.Row.open_lanes.Given as goal

abbrev pub invariant-lanes : goal.invariant-lanes
invariant-lanes l = vec_len l.lanes ≤ l.lane-index
