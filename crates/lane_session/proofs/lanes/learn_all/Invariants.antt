use Rattle.std.proofs.Common.{◌≡◌, ◌<◌, ◌≤◌, ℕ, Some, slice_index_or}
use Rattle.lane_session.specs.Lanes.{LaneView, Learns, Work}
use Rattle.lane_session.proofs.lanes.learn_all.Given as goal

-- the lanes so far have learnt, and the others are as they were
abbrev pub invariant-seats : goal.invariant-seats
invariant-seats g l =
    ((j : ℕ) (d : LaneView g.row.V.Denot) → l.i ≤ j → slice_index_or l.lanes j d ≡ slice_index_or l.initial.lanes j d)
    × ((j : ℕ) (d : LaneView g.row.V.Denot) → j < l.i → (before : Work g.row.V.Denot) → (slice_index_or l.initial.lanes j d).work ≡ Some before → Learns l.closed.values before (slice_index_or l.initial.lanes j d) (slice_index_or l.lanes j d))
