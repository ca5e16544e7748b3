-- How a line is put together from the bytes held and those read.
use Rattle.std.specs.Prelude.{◌≡◌, ℕ, ◌+◌, ◌<◌, Bool, true, false, List, [], ◌∷◌, ◌++◌, length, take, drop, Option, nat_le, ◌==◌, if◌then◌else◌, ⊤}
use Rattle.std.specs.Io.KnownBytes.{Consumes, IsAtEnd}
use Rattle.fsm_io.specs.Buffers.{BufferView}
use Rattle.fsm_io.specs.Lines.{most_line, IsWithinLine}
use Rattle.fsm_io.specs.declared.lines.LineEvent.{LineEvent}
use Rattle.fsm_io.specs.declared.lines.LineEvent.TheVariants.{Line, Long, End, Failed, Over}
use Rattle.fsm_io.specs.declared.lines.Step.{Step}
use Rattle.fsm_io.specs.declared.lines.Step.TheVariants as step

-- how many bytes of a line are kept: one more than a line has that is told
unfoldable pub most_kept : ℕ
most_kept = 4097

-- a newline stands there, and none before
pub record IsNewline (bytes : List ℕ) (place : ℕ) : Type 0 where
  pub inside : place < length bytes
  pub within : IsWithinLine (take place bytes)
  pub divided : bytes ≡ take place bytes ++ 10 ∷ drop (place + 1) bytes

-- a front of the held bytes went to the line: up to a newline, or all of them
pub record Moves (held0 held : List ℕ) (line0 line : BufferView) (whole : Bool) : Type 0 where
  pub piece : List ℕ
  pub within : IsWithinLine piece
  pub bytes : held0 ≡ piece ++ (if whole then 10 ∷ held else held)
  pub none : whole ≡ false → held ≡ []
  pub kept : line.held ≡ take line0.room (line0.held ++ piece)
  pub room : line.room ≡ line0.room

-- what settled the line, or why nothing did
abbrev pub IsStep : Step → Option (List ℕ) → ℕ → List ℕ → Type 0
IsStep step.Settled left budget held = ⊤
IsStep step.Ended left budget held = IsAtEnd left × (0 < budget) × (held ≡ [])
IsStep step.Failed left budget held = (0 < budget) × (held ≡ [])
IsStep step.Over left budget held = (budget ≡ 0) × (held ≡ [])

abbrev pub is_settled : Step → Bool
is_settled step.Settled = true
is_settled step.Ended = false
is_settled step.Failed = false
is_settled step.Over = false

abbrev pub is_ended : Step → Bool
is_ended step.Settled = false
is_ended step.Ended = true
is_ended step.Failed = false
is_ended step.Over = false

-- whether the line is told then
abbrev pub is_told : Step → Bool
is_told step.Settled = true
is_told step.Ended = true
is_told step.Failed = false
is_told step.Over = false

-- bytes held and bytes taken from the source went to the line
pub record Gathered (left0 left : Option (List ℕ)) (budget0 budget : ℕ) (line0 line : BufferView) (held0 held : List ℕ) (ended : Step) : Type 0 where
  pub taken : List ℕ
  pub piece : List ℕ
  pub consumed : Consumes left0 left taken
  pub spent : budget + length taken ≡ budget0
  pub within : IsWithinLine piece
  pub bytes : held0 ++ taken ≡ piece ++ (if is_settled ended then 10 ∷ held else held)
  pub kept : line.held ≡ take line0.room (line0.held ++ piece)
  pub room : line.room ≡ line0.room
  pub step : IsStep ended left budget held

-- the event of a line that ended so
abbrev pub event_of : Step → List ℕ → LineEvent
event_of step.Settled line = if nat_le (length line) most_line then Line else Long
event_of step.Ended line = if length line == 0 then End else (if nat_le (length line) most_line then Line else Long)
event_of step.Failed line = Failed
event_of step.Over line = Over
