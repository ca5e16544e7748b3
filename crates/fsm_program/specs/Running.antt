-- What was read and written so far while the lines of an input are answered.
use Rattle.std.specs.Prelude.{◌≡◌, ◌⊎◌, ◌≤◌, ◌++◌, ◌^◌, ℕ, true, false, List, [], length, Option, None, Some, Contains, Result, Ok, Err}
use Rattle.fsm_io.specs.declared.source.Failed.{Failed}
use Rattle.std.specs.Io.KnownBytes.{Appends, Consumes}
use Rattle.fsm_io.specs.Buffers.{most_ahead, most_gathered}
use Rattle.fsm_io.specs.Reading.{LinesView, HasTold}
use Rattle.reply_meaning.specs.Transcripts.{IsTranscript, HasAnswered}
use Rattle.reply_meaning.specs.declared.ending.Ending.{Ending}
use Rattle.reply_meaning.specs.declared.ending.Ending.TheVariants.{Finished, WriteFailed, ReadFailed, Spent}

-- every line told so far has its reply, and the bytes of these are written or gathered
pub record Sofar {S : Type 0} (Step : S → Option (List ℕ) → List ℕ → S → Type 0) (first : S) (budget : ℕ) (left0 left held0 held : Option (List ℕ)) (reader : LinesView) (gathered : List ℕ) : Type 0 where
  pub lines : List (Option (List ℕ))
  pub written : List ℕ
  pub last : S
  pub told : HasTold left0 left budget reader lines
  pub settled : (reader.begun ≡ []) ⊎ (reader.ahead ≡ [])
  pub few : length reader.ahead ≤ most_ahead
  pub few_gathered : length gathered ≤ most_gathered
  pub appended : Appends held0 held written
  pub transcript : IsTranscript Step first lines (written ++ gathered) last

-- how a turn left things: another line answered, or the end of it all
abbrev pub Turns : {S : Type 0} → (S → Option (List ℕ) → List ℕ → S → Type 0) → S → ℕ → Option (List ℕ) → Option (List ℕ) → Option (List ℕ) → Option (List ℕ) → LinesView → List ℕ → Option Ending → Type 0
Turns Step first budget left0 left held0 held reader gathered None = Sofar Step first budget left0 left held0 held reader gathered
Turns Step first budget left0 left held0 held reader gathered (Some Finished) = Sofar Step first budget left0 left held0 held reader gathered × (reader.ended ≡ true)
Turns Step first budget left0 left held0 held reader gathered (Some WriteFailed) = HasAnswered Step first budget most_gathered left0 left held0 held WriteFailed
Turns Step first budget left0 left held0 held reader gathered (Some ReadFailed) = Sofar Step first budget left0 left held0 held reader gathered × (reader.ended ≡ false) × (reader.ahead ≡ [])
Turns Step first budget left0 left held0 held reader gathered (Some Spent) =
    Sofar Step first budget left0 left held0 held reader gathered × (reader.ended ≡ false) × (reader.ahead ≡ []) × (reader.budget ≡ 0)

-- the source may be read: a whole line is ahead, so that it won't be, or every reply so far is written
abbrev pub MayRead : LinesView → List ℕ → Type 0
MayRead reader gathered = Contains reader.ahead 10 ⊎ (gathered ≡ [])

-- how a flush went, by the ending that it leaves
abbrev pub flushed : Ending → Result (Unit {0}) Failed
flushed Finished = Ok tt
flushed WriteFailed = Err (record {})
flushed ReadFailed = Ok tt
flushed Spent = Ok tt

-- the greatest number of bytes taken from one source in a run
unfoldable pub most_taken : ℕ
most_taken = 2 ^ 40

-- as many bytes were taken as are taken of one source in a run
abbrev pub HasSpent : Option (List ℕ) → Option (List ℕ) → Type 0
HasSpent left0 left = (taken : List ℕ) × Consumes left0 left taken × (length taken ≡ most_taken)
