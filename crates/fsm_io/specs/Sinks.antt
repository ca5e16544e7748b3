-- What a sink takes of the bytes that it is given: some of them in a call, as `write` of POSIX.1-2017
-- does, and all of them in several.
use Rattle.std.specs.Prelude.{◌≡◌, ℕ, ◌<◌, ◌≤◌, List, [], ◌++◌, length, Option, Result, OnOk, OnErr}
use Rattle.std.specs.Io.KnownBytes.{Appends}

-- some of the piece, and no more than it has
abbrev pub WritesSome : List ℕ → ℕ → Type 0
WritesSome piece n = (0 < n) × (n ≤ length piece)

-- of the bytes a front was written, and the rest is still to be
pub record Written (old new : Option (List ℕ)) (bytes rest : List ℕ) : Type 0 where
  pub front : List ℕ
  pub whole : bytes ≡ front ++ rest
  pub appended : Appends old new front

-- what is held grows by a front of the bytes, and at `Ok` by all of them
pub record WritesAll {T E : Type 0} (old new : Option (List ℕ)) (bytes : List ℕ) (result : Result T E) : Type 0 where
  pub front : List ℕ
  pub rest : List ℕ
  pub whole : bytes ≡ front ++ rest
  pub appended : Appends old new front
  pub all : OnOk result (rest ≡ [])

-- what is held grows by a front of the bytes gathered before and of these, and at `Ok` the others
-- are gathered now; after an `Err` none are
pub record Gathers {T E : Type 0} (old new : Option (List ℕ)) (gathered bytes after : List ℕ) (result : Result T E) : Type 0 where
  pub front : List ℕ
  pub rest : List ℕ
  pub whole : gathered ++ bytes ≡ front ++ rest
  pub appended : Appends old new front
  pub kept : OnOk result (after ≡ rest)
  pub lost : OnErr result (after ≡ [])
