-- When a call may answer a failure: only where its object's count of faults rose in that call. As the
-- calls `read` and `write` of POSIX.1-2017, a failed call moves no byte.
use Rattle.std.specs.Prelude.{ℕ, ◌+◌, ◌-◌, ◌^◌, ◌≤◌, min, Result, OnErr, IsErrOf}
use Rattle.fsm_io.specs.declared.folder.FolderError.{FolderError}
use Rattle.fsm_io.specs.declared.folder.FolderError.TheVariants.{Failed}

-- one more, as far as 64 bits count
abbrev pub counted : ℕ → ℕ
counted n = min (n + 1) (2 ^ 64 - 1)

-- the count rose, or stands at its last value
abbrev pub Rose : ℕ → ℕ → Type 0
Rose before now = counted before ≤ now

-- the count never falls, and an `Err` comes only where it rose
pub record HasCause {T E : Type 0} (before now : ℕ) (result : Result T E) : Type 0 where
  pub later : before ≤ now
  pub failed : OnErr result (Rose before now)

-- the same of a folder, whose want of memory needs no cause
pub record FolderCause {T : Type 0} (before now : ℕ) (result : Result T FolderError) : Type 0 where
  pub later : before ≤ now
  pub failed : IsErrOf result Failed → Rose before now
