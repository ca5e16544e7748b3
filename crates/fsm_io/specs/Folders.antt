-- What a folder holds, what a read of it finds, and what it was asked for.
use Rattle.std.specs.Prelude.{◌≡◌, ◌⊎◌, ℕ, List, [], ◌∷◌, ◌++◌, Option, None, Some, Result, ◌≤◌, length, take, if◌then◌else◌, ⊤, IsErr}
use Rattle.std.specs.Str.{bytes_eq}
use Rattle.fsm_io.specs.declared.folder.Found.{Found}
use Rattle.fsm_io.specs.declared.folder.Found.TheVariants.{Bytes, Missing}

-- the files of a folder, each by the bytes of its name and its content
abbrev pub Files : Type 0
Files = List (List ℕ × List ℕ)

-- the content of the first file of this name
abbrev pub file_of : List ℕ → Files → Option (List ℕ)
file_of name [] = None
file_of name (file ∷ files) = if bytes_eq file.0 name then Some file.1 else file_of name files

-- the first `most` bytes of the file of this name, or that there is none
abbrev pub Finds : List ℕ → ℕ → Found → Files → Type 0
Finds name most (Bytes bytes) files = (content : List ℕ) × (file_of name files ≡ Some content) × (bytes.items ≡ take most content)
Finds name most Missing files = file_of name files ≡ None

-- no more bytes than this were found
abbrev pub HasAtMost : ℕ → Found → Type 0
HasAtMost most (Bytes bytes) = length bytes.items ≤ most
HasAtMost most Missing = ⊤

-- a request for a file of this name, of so many bytes at most
pub record Asked : Type 0 where
  pub name : List ℕ
  pub most : ℕ

-- what was asked for so far, where it is told, grew by these requests
abbrev pub AsksFor : Option (List Asked) → Option (List Asked) → List Asked → Type 0
AsksFor None new requests = new ≡ None
AsksFor (Some old) new requests = new ≡ Some (old ++ requests)

-- the call asked for the file. Where it answers an error it may not have come to that
abbrev pub HasAsked : {T E : Type 0} → Option (List Asked) → Option (List Asked) → List ℕ → ℕ → Result T E → Type 0
HasAsked old new name most result = AsksFor old new (record { name = name; most = most } ∷ []) ⊎ (IsErr result × (new ≡ old))

-- of what is told: a conclusion, which holds where nothing is told
abbrev pub Told : {T : Type 0} → Option T → (T → Type 0) → Type 0
Told None P = ⊤
Told (Some x) P = P x

-- something is told, and it is so: a premise
abbrev pub IsTold : {T : Type 0} → Option T → (T → Type 0) → Type 0
IsTold None P = ⊥
IsTold (Some x) P = P x
