-- What was read of a folder, and which project its files are.
use Rattle.std.specs.Prelude.{◌≡◌, ◌+◌, ◌++◌, ℕ, List, [], ◌∷◌, map, take, Option, Some, Ok, Err, ⊤}
use Rattle.fsm_io.specs.Causes.{Rose}
use Rattle.fsm_io.specs.Folders.{Asked, AsksFor, Files, file_of, Told}
use Rattle.project_manifest.specs.Lines.{Placed, files_in}
use Rattle.project_manifest.specs.Manifests.{project_name}
use Rattle.project_sources.specs.Sources.{Said, project_in}
use Rattle.project_sources.specs.Limits.{most_bytes}
use Rattle.project_model.specs.Answers.{IsManifestFile}
use Rattle.project_store.specs.Loaded.{LoadedView, IsLoadedFrom}
use Rattle.project_store.specs.Projects.{HasTable, Reads}
use Rattle.project_store.specs.declared.store_error.StoreError.{StoreError}
use Rattle.project_store.specs.declared.store_error.StoreError.TheVariants as store
use Rattle.fsm_program.specs.declared.load.LoadError.{LoadError}
use Rattle.fsm_program.specs.declared.load.LoadError.TheVariants.{Failed, Memory, Refused}

-- the most bytes that are read of a file: one more than a file may have
unfoldable pub most_read : ℕ
most_read = most_bytes + 1

-- a front of the names of the files that the manifest names, which has no fault
abbrev pub AreNamed : List (List ℕ) → Files → Type 0
AreNamed [] files = ⊤
AreNamed (name ∷ names) files =
    (content : List ℕ) × (lines : List Placed) × (rest : List (List ℕ)) × (file_of project_name files ≡ Some content) × IsManifestFile (take most_read content) lines
    × (files_in lines ≡ (name ∷ names) ++ rest)

-- a front of the names of the files that a project stands in: the manifest's, and then those that it names
abbrev pub AreWanted : List (List ℕ) → Files → Type 0
AreWanted [] files = ⊤
AreWanted (name ∷ names) files = (name ≡ project_name) × AreNamed names files

-- each of these files, as far as files are read
abbrev pub as_read : List (List ℕ) → List Asked
as_read names = map (λ name. record { name = name; most = most_read }) names

-- the folder was asked for a front of these files
abbrev pub AsksForFront : Option (List Asked) → Option (List Asked) → List (List ℕ) → Type 0
AsksForFront old new names = (front : List (List ℕ)) × (rest : List (List ℕ)) × (names ≡ front ++ rest) × AsksFor old new (as_read front)

-- the folder was asked for the files of its project alone, in their order
abbrev pub AskedForFiles : Option Files → Option (List Asked) → Option (List Asked) → Type 0
AskedForFiles files old new =
    (names : List (List ℕ)) × AsksFor old new (as_read names) × Told files (AreWanted names)

-- why files couldn't be read: their folder failed, or want of memory
abbrev pub IsReadError : LoadError → ℕ → ℕ → Type 0
IsReadError Failed before now = Rose before now
IsReadError (Memory refused) before now = Unit {0}
IsReadError (Refused fault) before now = ⊥

-- why a project couldn't be loaded: its folder failed, or else want of memory, or its first fault
abbrev pub IsLoadError : LoadError → Option Files → ℕ → ℕ → Type 0
IsLoadError Failed files before now = Rose before now
IsLoadError (Memory refused) files before now = ¬ (Rose before now)
IsLoadError (Refused fault) files before now = Told files (λ files. Reads files (Err fault)) × ¬ (Rose before now)

-- why a project isn't loaded whose sources have none
abbrev pub load_error : StoreError → LoadError
load_error (store.Memory refused) = Memory refused
load_error (store.Refused fault) = Refused fault

-- what was loaded is the project that the files are, with their glosses
abbrev pub IsLoaded : LoadedView → Option Files → Type 0
IsLoaded loaded files =
    (said : Said) × IsLoadedFrom said loaded × Told files (λ files. Reads files (Ok (project_in said))) × Told files (λ files. HasTable files loaded.glosses)
