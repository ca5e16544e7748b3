-- How a run ends that answers lanes beside an editor, and what became of the lanes.
use Rattle.std.specs.Prelude.{◌≡◌, ◌⊎◌, ℕ, List, ◌∷◌, Option, Some, Ok, slice_get}
use Rattle.fsm_io.specs.Causes.{Rose}
use Rattle.fsm_io.specs.Folders.{Told}
use Rattle.lane_session.specs.Lanes.{LaneView}
use Rattle.editor_session.specs.Endings.{worst}
use Rattle.editor_session.specs.Live.{HasCauses, IsLive}
use Rattle.project_sources.specs.Edits.{Version}
use Rattle.project_store.specs.Projects.{Reads}
use Rattle.project_versions.specs.Versions.{VersionView}
use Rattle.reply_meaning.specs.declared.ending.Ending.{Ending}
use Rattle.fsm_program.specs.Ends.{Asked, Ends, for_serve, status_of}
use Rattle.fsm_program.specs.Outside.{FolderFailed, Outside}
use Rattle.fsm_program.specs.Running.{HasSpent, most_taken}
use Rattle.fsm_program.specs.Serving.{IsFirstVersion}

-- lanes at one moment
abbrev pub Lanes : Type 0
Lanes = List (LaneView VersionView)

-- The commands of the input were answered from this version on, which the folder's files are, and the lines of the lanes over the
-- versions that the commands made. The status is that of the ending which goes before those of all others
abbrev pub HasServed : Version → Outside → Outside → Lanes → Lanes → ℕ → Type 0
HasServed loaded before after old new status =
    Told before.files (IsFirstVersion loaded) × ((ending : Ending) × (endings : List Ending) × (status ≡ status_of (worst (ending ∷ endings)))
    × IsLive loaded most_taken before.input after.input before.output after.output ending old new endings
    × HasCauses before.input_faults after.input_faults before.output_faults after.output_faults ending)

-- Every way to end beside lanes: as a run ends alone, which leaves them as they are; or the commands are served, where the folder didn't fail and
-- its project has no fault
pub data EndsBeside (version : ℕ) (asked : Option Asked) (before after : Outside) (old new : Lanes) (status : ℕ) : Type 0 where
  alone : Ends version asked before after status → new ≡ old → EndsBeside version asked before after old new status
  served : (loaded : Version) → asked ≡ Some for_serve → ¬ FolderFailed before after → Told before.files (λ files. Reads files (Ok loaded.project)) → HasServed loaded before after old new status
      → EndsBeside version asked before after old new status

-- it is so of some lane, as it was before and as it is after
abbrev pub OfSomeLane : (LaneView VersionView → LaneView VersionView → Type 0) → Lanes → Lanes → Type 0
OfSomeLane P old new = (i : ℕ) × (before : LaneView VersionView) × (after : LaneView VersionView) × (slice_get old i ≡ Some before) × (slice_get new i ≡ Some after) × P before after

-- the input of a lane failed, or its output
abbrev pub LaneReadFailed : LaneView VersionView → LaneView VersionView → Type 0
LaneReadFailed before after = Rose before.reads after.reads

abbrev pub LaneWriteFailed : LaneView VersionView → LaneView VersionView → Type 0
LaneWriteFailed before after = Rose before.writes after.writes

abbrev pub LaneFailed : LaneView VersionView → LaneView VersionView → Type 0
LaneFailed before after = LaneReadFailed before after ⊎ LaneWriteFailed before after

-- as much was taken of its input as is taken of one
abbrev pub LaneSpent : LaneView VersionView → LaneView VersionView → Type 0
LaneSpent before after = HasSpent before.left after.left
