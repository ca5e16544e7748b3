-- The sources, sinks and folders in memory, and their calls exactly. Calls are counted from 1, and the
-- count of calls stays at its last value, as that of faults does.
use Rattle.std.specs.Prelude.{◌≡◌, ◌≢◌, ℕ, Bool, ◌||◌, ◌==◌, nat_le, min, ◌-◌, List, ◌++◌, length, map, take, drop, Result, Ok, Err, MatchBool, IsErr, IsErrOf}
use Rattle.std.specs.List.{list_any}
use Rattle.std.specs.Global.{Vec}
use Rattle.fsm_io.specs.Causes.{counted}
use Rattle.fsm_io.specs.Folders.{Asked, Files}
use Rattle.fsm_io.specs.declared.folder.FolderError.{FolderError}
use Rattle.fsm_io.specs.declared.folder.FolderError.TheVariants.{Failed}

-- the bytes that are left, the greatest piece, the calls that fail, and the counts
pub record SourceView : Type 0 where
  pub left : List ℕ
  pub piece : ℕ
  pub failing : List ℕ
  pub calls : ℕ
  pub faults : ℕ

-- the bytes that are held, how many there may be, the greatest piece, the calls that fail, and the counts
pub record SinkView : Type 0 where
  pub held : List ℕ
  pub room : ℕ
  pub piece : ℕ
  pub failing : List ℕ
  pub calls : ℕ
  pub faults : ℕ

-- the files, what was asked for, the calls that fail, and the counts
pub record FolderView : Type 0 where
  pub files : Files
  pub asked : List Asked
  pub failing : List ℕ
  pub calls : ℕ
  pub faults : ℕ

-- files as contracts see them: each by the bytes of its name and its content
abbrev pub contents : List (List ℕ × Vec ℕ) → Files
contents files = map (λ file. (file.0, file.1.items)) files

-- the call after so many calls is listed as failing
abbrev pub fails_next : List ℕ → ℕ → Bool
fails_next failing calls = list_any (λ call. call == counted calls) failing

-- a listed read fails and is counted, and another gives the next bytes: a piece, as far as there is room
abbrev pub ReadsPiece : {E : Type 0} → SourceView → SourceView → ℕ → Result ℕ E → Type 0
ReadsPiece old new room result =
    let count = min (min old.piece room) (length old.left) in
    MatchBool (fails_next old.failing old.calls)
    (IsErr result × (new ≡ record old { calls = counted old.calls; faults = counted old.faults }))
    ((result ≡ Ok count) × (new ≡ record old { calls = counted old.calls; left = drop count old.left }))

-- a write that is listed, or comes where the room is used up, fails and is counted; another takes a
-- piece of the bytes, as far as there is room
abbrev pub WritesPiece : {E : Type 0} → SinkView → SinkView → List ℕ → Result ℕ E → Type 0
WritesPiece old new bytes result =
    let count = min old.piece (min (old.room - length old.held) (length bytes)) in
    MatchBool (fails_next old.failing old.calls || nat_le old.room (length old.held))
    (IsErr result × (new ≡ record old { calls = counted old.calls; faults = counted old.faults }))
    ((result ≡ Ok count) × (new ≡ record old { calls = counted old.calls; held = old.held ++ take count bytes }))

-- a listed read fails and is counted, and no other does. What was asked for may have grown by its request
abbrev pub ReadsListed : {T : Type 0} → FolderView → FolderView → Result T FolderError → Type 0
ReadsListed old new result =
    MatchBool (fails_next old.failing old.calls)
    (IsErrOf result Failed × (new ≡ record old { calls = counted old.calls; faults = counted old.faults }))
    ((result ≢ Err Failed) × (new ≡ record old { calls = counted old.calls; asked = new.asked }))
