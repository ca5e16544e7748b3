-- Laws of these definitions.
use Rattle.std.specs.Prelude.{◌≡◌, ◌≤◌, ◌⊎◌, ◌↔◌, ◌++◌, ◌∷◌, List, [], Contains, Result, Ok}
use Rattle.fsm_io.specs.Folders.{Files}
use Rattle.regex_ast.specs.declared.fault.Fault.{Fault}
use Rattle.regex_ast.specs.declared.fault.Why.TheVariants as why
use Rattle.interlinear.specs.Glosses.{Entry, SaysTable}
use Rattle.twolc_grammar.specs.Sections.{ReadsAs}
use Rattle.expr_kinds.specs.Weights.{most_weight}
use Rattle.lexc_grammar.specs.Files.{SaysLexicons}
use Rattle.project_manifest.specs.Manifests.{project_name}
use Rattle.project_meaning.specs.Forms.{body_weight, weight_in}
use Rattle.project_meaning.specs.Projects.{Definition, Project, HasNoCycle, IsClosed}
use Rattle.project_sources.specs.Sources.{FilesGloss, Readers}
use Rattle.project_sources.specs.Edits.{Edit, Holding, Apply}
use Rattle.project_sources.specs.Faults.{Row, empty_centre, in_said, fault, HasFault, FirstFault, SourcesSay}

-- sources have at most one first fault, whichever rows are told
abbrev pub OneFault : Readers → Type 0
OneFault readers = (files : Files) (by : List Row) (a b : Fault) → FirstFault readers files by a → FirstFault readers files by b → a ≡ b

-- sources have one table of glosses
abbrev pub OneTable : Readers → Type 0
OneTable readers = (files : Files) (a b : List Entry) → FilesGloss readers files a → FilesGloss readers files b → a ≡ b

-- those that are a project have a table of glosses
abbrev pub ProjectsHaveTables : Readers → Type 0
ProjectsHaveTables readers = (files : Files) (by : List Row) (project : Project) → SourcesSay readers files by (Ok project) → (table : List Entry) × FilesGloss readers files table

-- sources are one project, or have one first fault, and not both
abbrev pub OneAnswer : Readers → Type 0
OneAnswer readers = (files : Files) (by : List Row) (a b : Result Project Fault) → SourcesSay readers files by a → SourcesSay readers files by b → a ≡ b

-- what texts of the three kinds say
abbrev pub all_readers : Readers
all_readers = record { lexc = SaysLexicons; twolc = ReadsAs; gloss = SaysTable }

-- each name that stands in a definition is defined, none reaches itself, and no definition weighs too much
pub record IsSoundProject (project : Project) : Type 0 where
  pub closed : IsClosed project
  pub acyclic : HasNoCycle project
  pub light : (d : Definition) → Contains project.definitions d → body_weight (weight_in project) d.body ≤ most_weight

-- the project of sources without a fault is such a one
abbrev pub ProjectsAreSound : Readers → List Row → Type 0
ProjectsAreSound readers by = (files : Files) (project : Project) → SourcesSay readers files by (Ok project) → IsSoundProject project

-- without files the manifest is missing
abbrev pub NoFilesNoProject : List Row → Type 0
NoFilesNoProject by = FirstFault all_readers [] by (fault project_name 0 why.NoProject)

-- an empty centre is the fault where none is read before
abbrev pub CentresComeLast : Readers → List Row → Type 0
CentresComeLast readers read =
    (files : Files) (found : Fault) → FirstFault readers files (read ++ in_said empty_centre ∷ []) found
    ↔ (FirstFault readers files read found ⊎ (((other : Fault) → FirstFault readers files read other → ⊥) × HasFault readers files (in_said empty_centre) found))

-- edits make one thing of what is held, or have one fault
abbrev pub OneOutcome : Type 0
OneOutcome = (change : List Edit) (held : Holding) (a b : Result Holding Fault) → Apply change held a → Apply change held b → a ≡ b
