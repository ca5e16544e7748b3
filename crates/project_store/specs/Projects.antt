-- The project that sources are, or their first fault.
use Rattle.std.specs.Prelude.{List, Result, Ok, Err}
use Rattle.fsm_io.specs.Folders.{Files}
use Rattle.regex_ast.specs.declared.fault.Fault.{Fault}
use Rattle.interlinear.specs.Glosses.{Entry}
use Rattle.project_meaning.specs.Projects.{Project}
use Rattle.project_sources.specs.Faults.{FirstFault, SourcesSay, read_rows, rows}
use Rattle.project_sources.specs.Laws.{all_readers}
use Rattle.project_sources.specs.Sources.{FilesGloss, FilesSay, Said, project_in}
use Rattle.project_store.specs.Loaded.{LoadedView, IsLoadedFrom}
use Rattle.project_store.specs.declared.store_error.StoreError.{StoreError}
use Rattle.project_store.specs.declared.store_error.StoreError.TheVariants.{Memory, Refused}

-- the project that files are, or their first fault, by all readers and rows
abbrev pub Reads : Files → Result Project Fault → Type 0
Reads files answer = SourcesSay all_readers files rows answer

-- the table of glosses that files have
abbrev pub HasTable : Files → List Entry → Type 0
HasTable files table = FilesGloss all_readers files table

-- the project that sources are, with their glosses
abbrev pub IsOfSources : Files → LoadedView → Type 0
IsOfSources sources loaded = (said : Said) × IsLoadedFrom said loaded × Reads sources (Ok (project_in said)) × HasTable sources loaded.glosses

-- the project that sources say, with their glosses, where they have no fault but, may be, an empty centre
pub record IsRead (sources : Files) (loaded : LoadedView) : Type 0 where
  pub said : Said
  pub from : IsLoadedFrom said loaded
  pub says : FilesSay all_readers sources said
  pub free : (found : Fault) → FirstFault all_readers sources read_rows found → ⊥
  pub glosses : HasTable sources loaded.glosses

-- the first fault of sources, or want of memory
abbrev pub IsWhyNot : Files → StoreError → Type 0
IsWhyNot sources (Memory refused) = Unit {0}
IsWhyNot sources (Refused fault) = Reads sources (Err fault)
