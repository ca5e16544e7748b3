-- The files of a folder that are read for its project.
use Rattle.std.specs.Prelude.{◌≡◌, ℕ, List, All, Contains, None, Some, cond, take}
use Rattle.std.specs.Option.{option_map}
use Rattle.std.specs.Str.{bytes_eq}
use Rattle.fsm_io.specs.Folders.{Files, file_of}
use Rattle.project_manifest.specs.Lines.{Placed, files_in}
use Rattle.project_manifest.specs.Manifests.{project_name}
use Rattle.project_model.specs.Answers.{IsManifestFile}
use Rattle.fsm_program.specs.Files.{most_read}

-- the first bytes of the folder's file of this name were put beside the sources, or it has none and they stay
abbrev pub HasAdded : List ℕ → ℕ → Files → Files → Files → Type 0
HasAdded name most old new files = (other : List ℕ) → file_of other new ≡ cond (bytes_eq name other) (option_map (take most) (file_of name files)) (file_of other old)

-- of this file the sources have the first bytes, where the folder has it
abbrev pub IsSeen : Files → Files → List ℕ → Type 0
IsSeen sources files name = file_of name sources ≡ option_map (take most_read) (file_of name files)

-- the sources have a manifest without fault, with these lines
abbrev pub SourcesDeclare : Files → List Placed → Type 0
SourcesDeclare sources lines = (content : List ℕ) × (file_of project_name sources ≡ Some content) × IsManifestFile content lines

-- the sources have the manifest of the files, and the files that it names, and nothing else
pub record IsGathered (sources files : Files) : Type 0 where
  pub manifest : IsSeen sources files project_name
  pub named : (lines : List Placed) → SourcesDeclare sources lines → All (IsSeen sources files) (files_in lines)
  pub only : (other : List ℕ) → (project_name ≡ other → ⊥) → ((lines : List Placed) → SourcesDeclare sources lines → Contains (files_in lines) other → ⊥) → file_of other sources ≡ None
