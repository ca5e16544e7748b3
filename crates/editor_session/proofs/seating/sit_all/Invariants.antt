use Rattle.std.proofs.Common.{◌≡◌, ◌<◌, ◌≤◌, ◌+◌, ℕ, Some, All, length, slice_index_or}
use Rattle.fsm_io.specs.Reading.{LinesView, at_start}
use Rattle.lane_session.specs.Lanes.{LaneView, begun}
use Rattle.project_versions.specs.Versions.{VersionView}
use Rattle.publish_board.specs.Boards.{Seated}
use Rattle.editor_session.proofs.seating.sit_all.Given as goal

-- there are a seat and lines for each lane that is left; the lanes so far have theirs, and the others are as they were
abbrev pub invariant-lanes : goal.invariant-lanes
invariant-lanes g l =
    (length l.lanes ≡ length l.initial.lanes) × (length l.initial.lanes ≤ l.i + length l.seats.items) × (length l.initial.lanes ≤ l.i + length l.rows.items)
    × ((seat : Seated VersionView) (budget : ℕ) → All (λ (s : Seated VersionView). s ≡ seat) l.initial.seats.items → All (λ (lines : LinesView). lines ≡ at_start budget) l.initial.rows.items
    → All (λ (s : Seated VersionView). s ≡ seat) l.seats.items × All (λ (lines : LinesView). lines ≡ at_start budget) l.rows.items
    × ((j : ℕ) (d : LaneView VersionView) → l.i ≤ j → slice_index_or l.lanes j d ≡ slice_index_or l.initial.lanes j d)
    × ((j : ℕ) (d : LaneView VersionView) → j < l.i → slice_index_or l.lanes j d ≡ record (slice_index_or l.initial.lanes j d) { work = Some (begun seat budget) }))
