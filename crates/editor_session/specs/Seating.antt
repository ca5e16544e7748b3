-- What lanes have when they begin.
use Rattle.std.specs.Prelude.{◌≡◌, ◌<◌, ℕ, List, Some, All, length, slice_index_or}
use Rattle.lane_session.specs.Lanes.{LaneView, begun}
use Rattle.project_versions.specs.Versions.{VersionView}
use Rattle.publish_board.specs.Boards.{Seated}

-- each lane was given this seat and nothing else of it changed; as much may be taken of its input
pub record AreSeated (seat : Seated VersionView) (budget : ℕ) (old new : List (LaneView VersionView)) : Type 0 where
  pub count : length new ≡ length old
  pub each : (i : ℕ) (d : LaneView VersionView) → i < length old → slice_index_or new i d ≡ record (slice_index_or old i d) { work = Some (begun seat budget) }

-- each lane has such a seat and nothing was answered of it
abbrev pub AreBegun : Seated VersionView → ℕ → List (LaneView VersionView) → Type 0
AreBegun seat budget lanes = All (λ (lane : LaneView VersionView). lane.work ≡ Some (begun seat budget)) lanes
