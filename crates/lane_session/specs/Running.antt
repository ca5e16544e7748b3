-- What was read and written so far while a lane's lines are answered. The values are those up to the one that the lane's seat has, and
-- `entered` is how often it entered.
use Rattle.std.specs.Prelude.{◌≡◌, ◌⊎◌, ◌≤◌, ℕ, List, [], length, Option, None, Some}
use Rattle.std.specs.Io.KnownBytes.{Appends}
use Rattle.fsm_io.specs.Buffers.{most_ahead}
use Rattle.fsm_io.specs.Reading.{HasTold, LinesView}
use Rattle.publish_board.specs.Boards.{Seated}
use Rattle.reply_meaning.specs.Transcripts.{HasAnswered, IsTranscript}
use Rattle.reply_meaning.specs.declared.ending.Ending.{Ending}
use Rattle.lane_meaning.specs.Lanes.{Answers, AnswersBeside, HasEnteredFor, HasLane, Place, beside, behind, start}
use Rattle.lane_session.specs.declared.session.Stop.{Stop}
use Rattle.lane_session.specs.declared.session.Stop.TheVariants.{Marked, Ended}

-- every line told so far has its reply, which is written, and the lane is at this place
pub record Sofar (Step : Place → Option (List ℕ) → List ℕ → Place → Type 0) (place : Place) (budget : ℕ) (left0 left held0 held : Option (List ℕ)) (reader : LinesView) : Type 0 where
  pub lines : List (Option (List ℕ))
  pub written : List ℕ
  pub told : HasTold left0 left budget reader lines
  pub settled : (reader.begun ≡ []) ⊎ (reader.ahead ≡ [])
  pub few : length reader.ahead ≤ most_ahead
  pub appended : Appends held0 held written
  pub transcript : IsTranscript Step start lines written place

-- the steps of a lane with this seat beside the publishing
abbrev pub StepsBeside : {V : Type 0} → (V → Option (List ℕ) → List ℕ → Type 0) → Seated V → Place → Option (List ℕ) → List ℕ → Place → Type 0
StepsBeside Replies seat = AnswersBeside Replies seat.values seat.entered

-- and no line so far is the mark
pub record IsBeside {V : Type 0} (Replies : V → Option (List ℕ) → List ℕ → Type 0) (seat : Seated V) (budget : ℕ) (left0 left held0 held : Option (List ℕ)) (reader : LinesView) : Type 0 where
  pub seen : ℕ
  pub answered : ℕ
  pub published : seen ≤ length seat.values
  pub entered_for : HasEnteredFor answered seat.entered
  pub sofar : Sofar (StepsBeside Replies seat) (beside seen answered) budget left0 left held0 held reader

-- and the last line is the mark
abbrev pub IsBehind : {V : Type 0} → (V → Option (List ℕ) → List ℕ → Type 0) → Seated V → ℕ → Option (List ℕ) → Option (List ℕ) → Option (List ℕ) → Option (List ℕ) → LinesView → Type 0
IsBehind Replies seat budget left0 left held0 held reader = Sofar (StepsBeside Replies seat) behind budget left0 left held0 held reader

-- what was answered of a lane that stopped beside the publishing
abbrev pub HasStopped : {V : Type 0} → (V → Option (List ℕ) → List ℕ → Type 0) → Seated V → ℕ → Option (List ℕ) → Option (List ℕ) → Option (List ℕ) → Option (List ℕ) → LinesView → Stop → Type 0
HasStopped Replies seat budget left0 left held0 held reader Marked = IsBehind Replies seat budget left0 left held0 held reader
HasStopped Replies seat budget left0 left held0 held reader (Ended ending) = HasAnswered (StepsBeside Replies seat) start budget 0 left0 left held0 held ending

-- how a turn beside the publishing left things
abbrev pub TurnsBeside : {V : Type 0} → (V → Option (List ℕ) → List ℕ → Type 0) → Seated V → ℕ → Option (List ℕ) → Option (List ℕ) → Option (List ℕ) → Option (List ℕ) → LinesView → Option Stop → Type 0
TurnsBeside Replies seat budget left0 left held0 held reader None = IsBeside Replies seat budget left0 left held0 held reader
TurnsBeside Replies seat budget left0 left held0 held reader (Some stop) = HasStopped Replies seat budget left0 left held0 held reader stop

-- every line so far is answered over all values, and the mark is among them
abbrev pub IsRest : {V : Type 0} → (V → Option (List ℕ) → List ℕ → Type 0) → Seated V → ℕ → Option (List ℕ) → Option (List ℕ) → Option (List ℕ) → Option (List ℕ) → LinesView → Type 0
IsRest Replies seat budget left0 left held0 held reader = Sofar (Answers Replies seat.values seat.entered) behind budget left0 left held0 held reader

-- how a turn behind the mark left things
abbrev pub TurnsBehind : {V : Type 0} → (V → Option (List ℕ) → List ℕ → Type 0) → Seated V → ℕ → Option (List ℕ) → Option (List ℕ) → Option (List ℕ) → Option (List ℕ) → LinesView → Option Ending → Type 0
TurnsBehind Replies seat budget left0 left held0 held reader None = IsRest Replies seat budget left0 left held0 held reader
TurnsBehind Replies seat budget left0 left held0 held reader (Some ending) = HasLane Replies seat.values seat.entered budget left0 left held0 held ending
