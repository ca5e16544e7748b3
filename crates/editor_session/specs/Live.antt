-- What an editor's output and the outputs of lanes got for their inputs, over the same versions.
use Rattle.std.specs.Prelude.{◌≡◌, ℕ, List, ◌∷◌, length, Option, Some, slice_get}
use Rattle.fsm_io.specs.Causes.{Rose}
use Rattle.reply_meaning.specs.declared.ending.Ending.{Ending}
use Rattle.reply_meaning.specs.declared.ending.Ending.TheVariants.{WriteFailed, ReadFailed}
use Rattle.editor_session.specs.Sessions.{HasEdited}
use Rattle.lane_session.specs.Lanes.{IsServed, LaneView}
use Rattle.project_sources.specs.Edits.{Version}
use Rattle.project_versions.specs.Looks.{RepliesToLook}
use Rattle.project_versions.specs.Versions.{VersionView}

-- each lane was answered to its end over these versions, and ended so
pub record AreServed (versions : List Version) (budget : ℕ) (old new : List (LaneView VersionView)) (endings : List Ending) : Type 0 where
  pub lanes : length new ≡ length old
  pub count : length endings ≡ length old
  pub each : (i : ℕ) (before after : LaneView VersionView) (ending : Ending) → slice_get old i ≡ Some before → slice_get new i ≡ Some after → slice_get endings i ≡ Some ending
      → IsServed RepliesToLook versions budget before after ending

-- the editor's commands were answered from the loaded version on, and the lanes over the versions that these made
pub record IsLive (loaded : Version) (budget : ℕ) (left0 left held0 held : Option (List ℕ)) (ending : Ending) (old new : List (LaneView VersionView)) (endings : List Ending) : Type 0 where
  pub made : List Version
  pub edited : HasEdited loaded (loaded ∷ made) budget left0 left held0 held ending
  pub served : AreServed (loaded ∷ made) budget old new endings

-- the editor's answering ended by a failure only where its input or output failed meanwhile
pub record HasCauses (reads0 reads writes0 writes : ℕ) (ending : Ending) : Type 0 where
  pub read : ending ≡ ReadFailed → Rose reads0 reads
  pub write : ending ≡ WriteFailed → Rose writes0 writes
