-- A version of a project, and the version that it stands for.
use Rattle.std.specs.Prelude.{◌≡◌, ◌≤◌, ◌+◌, ℕ, List, Ok}
use Rattle.editor_meaning.specs.Editing.{most_edits}
use Rattle.lookup.specs.Nets.{NetView}
use Rattle.fsm_io.specs.Folders.{Files}
use Rattle.project_sources.specs.Edits.{Version}
use Rattle.project_sources.specs.Faults.{SourcesSay, rows}
use Rattle.project_sources.specs.Laws.{all_readers}
use Rattle.project_sources.specs.Sources.{Said, project_in}
use Rattle.project_store.specs.Loaded.{IsLoadedFrom, LoadedView}
use Rattle.project_store.specs.Projects.{IsOfSources}
use Rattle.project_versions.specs.Networks.{AreNetworks}

-- a version as contracts see it: its number, its files, the project that these are, and the automaton of each definition
pub record VersionView : Type 0 where
  pub number : ℕ
  pub files : Files
  pub loaded : LoadedView
  pub nets : List NetView

-- The project is that of the version's own files, and each of its names has a network with the meaning of that name, whatever edits
-- came before
pub record IsVersion (version : VersionView) : Type 0 where
  pub few : version.number ≤ most_edits + 1
  pub of_files : IsOfSources version.files version.loaded
  pub networks : AreNetworks version.loaded version.nets

-- it stands for the version with its number, its files, and the project that these say
pub record Stands (version : VersionView) (meant : Version) : Type 0 where
  pub number : version.number ≡ meant.number
  pub files : version.files ≡ meant.files
  pub said : Said
  pub loaded : IsLoadedFrom said version.loaded
  pub project : meant.project ≡ project_in said
  pub says : SourcesSay all_readers meant.files rows (Ok meant.project)
