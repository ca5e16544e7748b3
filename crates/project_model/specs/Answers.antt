-- What calls answer of sources: by the first fault that these have.
use Rattle.std.specs.Prelude.{◌≡◌, ◌⊎◌, ⊤, ℕ, List, Contains, Result, Ok, Err}
use Rattle.fsm_io.specs.Folders.{Files}
use Rattle.regex_ast.specs.declared.fault.Fault.{Fault}
use Rattle.regex_ast.specs.declared.fault.Why.TheVariants as why
use Rattle.regex_reader.specs.Files.{FaultAt}
use Rattle.project_manifest.specs.Lines.{ManifestFault, Placed, line_rows, manifest_of, names_required}
use Rattle.project_manifest.specs.Manifests.{project_name}
use Rattle.project_manifest.specs.Reading.{HasNoFault}
use Rattle.project_manifest.specs.Rows.{First, HaveNone, Where}
use Rattle.project_meaning.specs.Projects.{Written}
use Rattle.project_sources.specs.Sources.{FilesGloss, HasText, Said, FilesSay}
use Rattle.project_sources.specs.Faults.{fault, HasNoText, SaidRow, SaidFault, read_rows, FirstFault}
use Rattle.project_sources.specs.Laws.{all_readers}
pub use Rattle.project_sources.specs.Refusals.{IsRefusedBy, IsRefusal}
use Rattle.project_definitions.specs.Plain.{body_of}
use Rattle.project_model.specs.Plans.{PlanView}
use Rattle.project_model.specs.Stands.{Stands}
use Rattle.project_sources.specs.declared.plan_error.PlanError.{PlanError}
use Rattle.project_sources.specs.declared.plan_error.PlanError.TheVariants.{Refused, Memory}
use Rattle.project_model.specs.declared.written.WrittenDefine.{WrittenDefine}

-- the files have no fault by the rows that are read from sources, and the plan stands for what they say, and has their glosses
pub record IsPlanOf (files : Files) (old new : List (List ℕ)) (plan : PlanView) : Type 0 where
  pub faultless : (found : Fault) → FirstFault all_readers files read_rows found → ⊥
  pub said : Said
  pub says : FilesSay all_readers files said
  pub stands : Stands said old new plan
  pub glosses : FilesGloss all_readers files plan.glosses

-- the plan of files, their first fault, or want of memory
abbrev pub IsProjectRead : Files → List (List ℕ) → List (List ℕ) → Result PlanView PlanError → Type 0
IsProjectRead files old new (Ok plan) = IsPlanOf files old new plan
IsProjectRead files old new (Err (Refused found)) = FirstFault all_readers files read_rows found
IsProjectRead files old new (Err (Memory refused)) = ⊤

-- the content of the manifest's file has a text without fault, with these lines
pub record IsManifestFile (content : List ℕ) (lines : List Placed) : Type 0 where
  pub text : List ℕ
  pub has_text : HasText content text
  pub faultless : HasNoFault text
  pub says : lines ≡ manifest_of text

-- a text is no manifest
abbrev pub IsTextFault : List ℕ → Fault → Type 0
IsTextFault text found = (at : FaultAt) × ManifestFault line_rows text at × (found ≡ fault project_name at.line at.why)

-- the content of the manifest's file has no text, or its text is no manifest
abbrev pub IsNoManifest : List ℕ → Fault → Type 0
IsNoManifest content found = HasNoText project_name content found ⊎ ((text : List ℕ) × HasText content text × IsTextFault text found)

-- a definition as it is written, and what a manifest of these lines says with definitions
abbrev pub written_of : WrittenDefine → Written
written_of w = record { name = w.name; line = w.line; file = w.file; body = body_of w.body }

abbrev pub said_of : List Placed → List Written → Said
said_of manifest written = record { manifest = manifest; written = written }

-- the first of these lines that requires a name other than these
abbrev pub IsUnknown : List (List ℕ) → Placed → Type 0
IsUnknown names l = (name : List ℕ) × Contains (names_required l.said) name × (Contains names name → ⊥)

abbrev pub UnknownFault : List (List ℕ) → List Placed → Fault → Type 0
UnknownFault names lines found = First (λ l. Where (IsUnknown names l) (fault project_name l.line why.UnknownName)) lines found

-- the plan of what is said, its first fault by these rows, or want of memory
abbrev pub IsPlanBy : List SaidRow → Said → List (List ℕ) → List (List ℕ) → Result PlanView PlanError → Type 0
IsPlanBy by said old new (Ok plan) = HaveNone (SaidFault said) by × Stands said old new plan
IsPlanBy by said old new (Err error) = IsRefusedBy (First (SaidFault said) by) error
