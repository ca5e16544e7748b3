-- The version that a folder's files are.
use Rattle.fsm_io.specs.Folders.{Files}
use Rattle.project_sources.specs.Edits.{Version}
use Rattle.project_sources.specs.Faults.{rows}
use Rattle.project_sources.specs.Laws.{all_readers}
use Rattle.editor_meaning.specs.Editing.{IsLoaded}
use Rattle.fsm_program.specs.Gathered.{IsGathered}

-- the version is loaded, and its files are those of the folder that are read for its project
pub record IsFirstVersion (loaded : Version) (files : Files) : Type 0 where
  pub gathered : IsGathered loaded.files files
  pub loads : IsLoaded all_readers rows loaded.files loaded
