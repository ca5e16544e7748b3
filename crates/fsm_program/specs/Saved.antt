-- A file of the folder that was saved as AT&T text, and what was found of it.
use Rattle.std.specs.Prelude.{◌≡◌, ◌⊎◌, ◌+◌, ◌∷◌, ℕ, List, [], Option, None, Some, Ok}
use Rattle.fsm_base.specs.Normal.{source_text}
use Rattle.fsm_io.specs.Causes.{Rose}
use Rattle.fsm_io.specs.Folders.{Asked, AsksFor, Files, file_of}
use Rattle.fsm_io.specs.declared.folder.FolderError.{FolderError}
use Rattle.fsm_io.specs.declared.folder.FolderError.TheVariants.{Failed, Memory as NoMemory}
use Rattle.fsm_io.specs.declared.folder.Found.{Found}
use Rattle.fsm_io.specs.declared.folder.Found.TheVariants.{Bytes, Missing}
use Rattle.saved_networks.specs.Faults.{file_fault, most_bytes}
use Rattle.saved_networks.specs.Refusals.{refused_line}
use Rattle.saved_networks.specs.declared.faults.SavedError.{SavedError}
use Rattle.saved_networks.specs.declared.faults.SavedError.TheVariants.{Memory, Refused}
use Rattle.saved_networks.specs.declared.faults.SavedWhy.{SavedWhy}
use Rattle.fsm_program.specs.Outside.{IsSaid}

-- the most bytes that are read of the file: one more than it may have
unfoldable pub most_saved : ℕ
most_saved = most_bytes + 1

-- the first fault of the file is at this line, and is this
abbrev pub IsSavedFault : List ℕ → ℕ → SavedWhy → Files → Type 0
IsSavedFault file line why files = file_fault (file_of file files) ≡ Some (line, why)

-- the file has none, and this is its text
pub record HasSavedText (file text : List ℕ) (files : Files) : Type 0 where
  pub bytes : List ℕ
  pub held : file_of file files ≡ Some bytes
  pub faultless : file_fault (Some bytes) ≡ None
  pub is : source_text bytes ≡ Ok text

-- the bytes that were found, if any
abbrev pub content_of : Found → Option (List ℕ)
content_of (Bytes bytes) = Some bytes.items
content_of Missing = None

-- why it couldn't be read: the folder failed, or else want of memory
abbrev pub IsFindError : FolderError → ℕ → ℕ → Type 0
IsFindError Failed before now = Rose before now
IsFindError (NoMemory refused) before now = ¬ (Rose before now)

-- the folder was asked for this file alone, as far as it is read, or not at all
abbrev pub AskedForSaved : List ℕ → Option (List Asked) → Option (List Asked) → Type 0
AskedForSaved file old new = AsksFor old new (record { name = file; most = most_saved } ∷ []) ⊎ (new ≡ old)

-- how a run ends whose file is refused, or finds no memory
abbrev pub IsNotOpened : SavedError → List ℕ → Option (List ℕ) → Option (List ℕ) → ℕ → Type 0
IsNotOpened (Refused line why) file held0 held status = IsSaid held0 held (refused_line file line why) 2 status ⊎ ((held ≡ held0) × (status ≡ 5))
IsNotOpened (Memory error) file held0 held status = (held ≡ held0) × (status ≡ 5)
