-- What becomes of a project that C fills, opens and shares.
use Rattle.std.specs.Prelude.{◌≡◌, ◌⊎◌, [], ℕ, List, Option, None, Some, Err, cond}
use Rattle.std.specs.Str.{bytes_eq}
use Rattle.editor_meaning.specs.Editing.{IsLoaded}
use Rattle.fsm_io.specs.Folders.{Files, file_of}
use Rattle.project_sources.specs.Edits.{Version as Meant}
use Rattle.project_sources.specs.Faults.{rows}
use Rattle.project_sources.specs.Laws.{all_readers}
use Rattle.project_store.specs.Projects.{Reads}
use Rattle.project_versions.specs.Versions.{Stands, VersionView}
use Rattle.saved_networks.specs.Faults.{file_fault}
use Rattle.saved_networks.specs.Networks.{IsSavedFrom, SavedView}
use Rattle.morph_c.specs.Asking.{IsNoLine, IsNotOpen, IsNotSaved, IsOpen, IsSaved}
use Rattle.morph_c.specs.Statuses.{ok, status_of}
use Rattle.morph_c.specs.declared.held.Held.{Held}
use Rattle.morph_c.specs.declared.held.Held.TheVariants.{Gathered, Faulty, Open, Saved, Unreadable}
use Rattle.morph_c.specs.declared.trouble.Trouble.{Trouble}
use Rattle.morph_c.specs.declared.trouble.Trouble.TheVariants.{Memory, State, Refused}

-- the files that were put so far
abbrev pub AreGathered : Option Held → Files → Type 0
AreGathered held files = (held ≡ Some (Gathered files)) ⊎ ((held ≡ None) × (files ≡ []))

-- no file can be put any more
abbrev pub IsLate : Option Held → Type 0
IsLate held = (files : Files) → AreGathered held files → ⊥

-- with this file in the place of the one of this name, or beside the others
abbrev pub IsWithFile : Option Held → List ℕ → List ℕ → Held → Type 0
IsWithFile held name content (Gathered new) =
    (old : Files) × AreGathered held old × ((other : List ℕ) → file_of other new ≡ cond (bytes_eq name other) (Some content) (file_of other old))
IsWithFile held name content (Faulty fault) = ⊥
IsWithFile held name content (Open v) = ⊥
IsWithFile held name content (Saved network) = ⊥
IsWithFile held name content (Unreadable refusal) = ⊥

-- why no file is put: it is too late, its name is no line of text, or there was no memory
abbrev pub IsNoPut : Option Held → List ℕ → Trouble → Type 0
IsNoPut held name why = (why ≡ Memory) ⊎ (((why ≡ State) × IsLate held) ⊎ IsNoLine name why)

-- a first version that is loaded of files
abbrev pub IsFirstOf : Files → VersionView → Type 0
IsFirstOf files v = (meant : Meant) × Stands v meant × IsLoaded all_readers rows files meant

-- the files that were put are a first version, or have a first fault
abbrev pub IsOpenedFrom : Option Held → Held → Type 0
IsOpenedFrom held (Open v) = (files : Files) × (held ≡ Some (Gathered files)) × IsFirstOf files v
IsOpenedFrom held (Faulty fault) = (files : Files) × (held ≡ Some (Gathered files)) × Reads files (Err fault)
IsOpenedFrom held (Gathered files) = ⊥
IsOpenedFrom held (Saved network) = ⊥
IsOpenedFrom held (Unreadable refusal) = ⊥

-- why it isn't seen what files say: none were put, or there was no memory
abbrev pub IsNotOpened : Option Held → Trouble → Type 0
IsNotOpened held why = (why ≡ Memory) ⊎ ((why ≡ State) × ((files : Files) → held ≡ Some (Gathered files) → ⊥))

-- the file of this name has no fault as an AT&T text, and this is its network
abbrev pub HasSaved : Files → List ℕ → SavedView → Type 0
HasSaved files name network = (bytes : List ℕ) × (file_of name files ≡ Some bytes) × (file_fault (Some bytes) ≡ None) × IsSavedFrom bytes network

-- the file of this name as an AT&T text: its network, or its first fault
abbrev pub IsSavedIn : Files → List ℕ → Held → Type 0
IsSavedIn files name (Saved network) = HasSaved files name network
IsSavedIn files name (Unreadable refusal) = (refusal.file ≡ name) × (file_fault (file_of name files) ≡ Some (refusal.line, refusal.why))
IsSavedIn files name (Gathered others) = ⊥
IsSavedIn files name (Faulty fault) = ⊥
IsSavedIn files name (Open v) = ⊥

-- of the files that were put, the one of this name as an AT&T text
abbrev pub IsSavedOpenedFrom : Option Held → List ℕ → Held → Type 0
IsSavedOpenedFrom held name next = (files : Files) × (held ≡ Some (Gathered files)) × IsSavedIn files name next

-- why it isn't seen what a file says as an AT&T text: none were put, its name is no line of text, or there was no memory
abbrev pub IsSavedNotOpened : Option Held → List ℕ → Trouble → Type 0
IsSavedNotOpened held name why = IsNotOpened held why ⊎ IsNoLine name why

-- the same version, or the same network of an AT&T text
abbrev pub IsSameOpen : Option Held → Held → Type 0
IsSameOpen held next = ((v : VersionView) × IsOpen held v × (next ≡ Open v)) ⊎ ((network : SavedView) × IsSaved held network × (next ≡ Saved network))

-- why it isn't shared
abbrev pub IsNotShared : Option Held → Trouble → Type 0
IsNotShared held why = (why ≡ Memory) ⊎ ((why ≡ State) × IsNotOpen held × IsNotSaved held)

-- the number that tells what a project has become
abbrev pub status_in : Held → ℕ
status_in (Gathered files) = ok
status_in (Faulty fault) = status_of Refused
status_in (Open v) = ok
status_in (Saved network) = ok
status_in (Unreadable refusal) = status_of Refused

-- A project becomes another, of which P holds; or it stays as it was, for a trouble of which W holds
pub data Becomes (P : Held → Type 0) (W : Trouble → Type 0) (before after : Option Held) (status : ℕ) : Type 0 where
  became : (next : Held) → P next → after ≡ Some next → status ≡ status_in next → Becomes P W before after status
  kept : (why : Trouble) → W why ⊎ (why ≡ Memory) → after ≡ before → status ≡ status_of why → Becomes P W before after status
