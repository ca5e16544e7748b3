-- What a reader of lines has read of its source, and what its next event is. A source's last line may
-- be an incomplete line (POSIX.1-2017, Base Definitions, 3.195), which its end settles.
use Rattle.std.specs.Prelude.{◌≡◌, ℕ, ◌+◌, ◌<◌, ◌≤◌, Bool, true, false, List, [], ◌∷◌, ◌++◌, map, length, Option, None, Some, if◌then◌else◌, ⊤}
use Rattle.std.specs.Io.KnownBytes.{Consumes, IsAtEnd}
use Rattle.fsm_io.specs.Lines.{raw_lines, told, most_line, IsWithinLine}
use Rattle.fsm_io.specs.declared.lines.LineEvent.{LineEvent}
use Rattle.fsm_io.specs.declared.lines.LineEvent.TheVariants.{Line, Long, End, Failed, Over}

pub record LinesView : Type 0 where
  -- what is kept of a line inside of which an event stopped
  pub begun : List ℕ
  -- bytes that were taken from the source and come next
  pub ahead : List ℕ
  -- the last line
  pub text : List ℕ
  -- how many bytes may still be taken
  pub budget : ℕ
  -- whether the source was at its end
  pub ended : Bool

abbrev pub at_start : ℕ → LinesView
at_start budget = record { begun = []; ahead = []; text = []; budget = budget; ended = false }

-- a line was told, by itself or as being long
abbrev pub IsLineEvent : LineEvent → Type 0
IsLineEvent Line = ⊤
IsLineEvent Long = ⊤
IsLineEvent End = ⊥
IsLineEvent Failed = ⊥
IsLineEvent Over = ⊥

-- the line that the event tells, if it tells one
abbrev pub told_by : LineEvent → List ℕ → List (Option (List ℕ))
told_by Line text = Some text ∷ []
told_by Long text = None ∷ []
told_by End text = []
told_by Failed text = []
told_by Over text = []

-- what the event says of the line read so far, where `kept` is kept of it
abbrev pub Tells : LineEvent → List ℕ → List ℕ → List ℕ → Type 0
Tells Line line text kept = (told line ≡ Some text) × (kept ≡ [])
Tells Long line text kept = (told line ≡ None) × (kept ≡ [])
Tells End line text kept = (line ≡ []) × (kept ≡ [])
Tells Failed line text kept = told kept ≡ told line
Tells Over line text kept = told kept ≡ told line

-- the bytes are the piece and a newline before those ahead, or where no newline settled the event
-- the piece alone
abbrev pub IsDivided : LineEvent → Bool → List ℕ → List ℕ → List ℕ → Type 0
IsDivided Line false bytes piece ahead = bytes ≡ piece ++ 10 ∷ ahead
IsDivided Long false bytes piece ahead = bytes ≡ piece ++ 10 ∷ ahead
IsDivided event ended bytes piece ahead = (bytes ≡ piece) × (ahead ≡ [])

-- a line that the end settled isn't empty; the end is told once the source has ended, a failure and
-- the spent budget only before
abbrev pub HasStopped : LineEvent → Bool → List ℕ → ℕ → Type 0
HasStopped Line ended line budget = ended ≡ true → 0 < length line
HasStopped Long ended line budget = ended ≡ true → 0 < length line
HasStopped End ended line budget = ended ≡ true
HasStopped Failed ended line budget = (ended ≡ false) × (0 < budget)
HasStopped Over ended line budget = (ended ≡ false) × (budget ≡ 0)

-- what a caller's loop counts down: bytes that may still come, and the end
abbrev pub size_of : LinesView → ℕ
size_of reader = length reader.ahead + reader.budget + (if reader.ended then 0 else 1)

-- bytes were taken from the source, and those ahead and these tell the event
pub record NextEvent (left0 left : Option (List ℕ)) (old new : LinesView) (event : LineEvent) : Type 0 where
  pub taken : List ℕ
  -- what was read of the line
  pub piece : List ℕ
  pub consumed : Consumes left0 left taken
  pub spent : new.budget + length taken ≡ old.budget
  pub within : IsWithinLine piece
  pub divided : IsDivided event new.ended (old.ahead ++ taken) piece new.ahead
  pub tells : Tells event (old.begun ++ piece) new.text new.begun
  pub stopped : HasStopped event new.ended (old.begun ++ piece) new.budget
  -- a read gave nothing, and the budget wasn't spent before it
  pub at_end : old.ended ≡ false → new.ended ≡ true → IsAtEnd left × (0 < new.budget)
  -- once it has ended it stays so, and takes nothing
  pub stays : old.ended ≡ true → (event ≡ End) × (new ≡ old) × (left ≡ left0)
  pub short : event ≡ Line → length new.text ≤ most_line
  pub progress : IsLineEvent event → size_of new < size_of old

-- the bytes taken so far and their lines, where `begun` is the front of a further line that was read
pub record HasRead (left0 left : Option (List ℕ)) (budget0 : ℕ) (reader : LinesView) (lines : List (List ℕ)) : Type 0 where
  pub taken : List ℕ
  pub begun : List ℕ
  pub consumed : Consumes left0 left taken
  pub spent : reader.budget + length taken ≡ budget0
  -- whatever comes, its lines come behind these, the first of them begun already
  pub goes_on : reader.ended ≡ false → (ended : Bool) (more : List ℕ) → raw_lines ended (taken ++ more) ≡ lines ++ raw_lines ended (begun ++ reader.ahead ++ more)
  pub within : IsWithinLine begun
  pub kept : told reader.begun ≡ told begun
  pub ends : reader.ended ≡ true → (raw_lines true taken ≡ lines) × (begun ≡ []) × (reader.ahead ≡ []) × IsAtEnd left

-- the same, by the lines as they are told
pub record HasTold (left0 left : Option (List ℕ)) (budget0 : ℕ) (reader : LinesView) (lines : List (Option (List ℕ))) : Type 0 where
  pub raw : List (List ℕ)
  pub read : HasRead left0 left budget0 reader raw
  pub told : map told raw ≡ lines
