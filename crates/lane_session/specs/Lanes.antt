-- What contracts see of a lane, and what it does while values are published and afterwards.
use Rattle.std.specs.Prelude.{◌≡◌, ◌≤◌, ℕ, List, Option, None, Some}
use mathlib.Core.List.{IsPrefix}
use Rattle.fsm_io.specs.Causes.{Rose}
use Rattle.fsm_io.specs.Reading.{LinesView, at_start}
use Rattle.reply_meaning.specs.declared.ending.Ending.{Ending}
use Rattle.reply_meaning.specs.declared.ending.Ending.TheVariants.{WriteFailed, ReadFailed}
use Rattle.publish_board.specs.Boards.{Seated}
use Rattle.lane_meaning.specs.Lanes.{HasLane}
use Rattle.lane_session.specs.Running.{HasStopped, IsRest}
use Rattle.lane_session.specs.declared.session.Stop.{Stop}
use Rattle.lane_session.specs.declared.session.Stop.TheVariants.{Marked, Ended}

-- what a lane works with: its seat, its lines, and why it stopped, if it did
pub record Work (V : Type 0) : Type 0 where
  pub seat : Seated V
  pub reader : LinesView
  pub stop : Option Stop

-- what is left of a lane's input and held by its output, where that is told, and how often each failed; and what it works with, where
-- it was given a seat
pub record LaneView (V : Type 0) : Type 0 where
  pub left : Option (List ℕ)
  pub held : Option (List ℕ)
  pub reads : ℕ
  pub writes : ℕ
  pub work : Option (Work V)

-- how often its seat entered; 0 where it has none
abbrev pub entered_by : {V : Type 0} → Option (Work V) → ℕ
entered_by None = 0
entered_by (Some work) = work.seat.entered

-- how its answering ended, if it did
abbrev pub ending_of : Option Stop → Option Ending
ending_of None = None
ending_of (Some Marked) = None
ending_of (Some (Ended ending)) = Some ending

abbrev pub ending_in : {V : Type 0} → Option (Work V) → Option Ending
ending_in None = None
ending_in (Some work) = ending_of work.stop

-- nothing was answered of it, and this much may be taken of its input
abbrev pub begun : {V : Type 0} → Seated V → ℕ → Work V
begun seat budget = record { seat = seat; reader = at_start budget; stop = None }

-- a lane with this to work with
abbrev pub working : {V : Type 0} → Option (List ℕ) → Option (List ℕ) → ℕ → ℕ → Work V → LaneView V
working left held reads writes work = record { left = left; held = held; reads = reads; writes = writes; work = Some work }

-- a failure has its cause in this lane
pub record HasCauses {V : Type 0} (old new : LaneView V) (stop : Stop) : Type 0 where
  pub read : stop ≡ Ended ReadFailed → Rose old.reads new.reads
  pub write : stop ≡ Ended WriteFailed → Rose old.writes new.writes
  pub later_input : old.reads ≤ new.reads
  pub later_output : old.writes ≤ new.writes

-- the lines up to the mark were answered beside the publishing, where the lane had this to work with
pub record GoesBeside {V : Type 0} (Replies : V → Option (List ℕ) → List ℕ → Type 0) (before : Work V) (old new : LaneView V) : Type 0 where
  pub stop : Stop
  pub after : Work V
  pub after_is : new.work ≡ Some after
  pub stop_is : after.stop ≡ Some stop
  pub board : after.seat.board ≡ before.seat.board
  pub answered : (budget : ℕ) → before.reader ≡ at_start budget → HasStopped Replies after.seat budget old.left new.left old.held new.held after.reader stop
  pub causes : HasCauses old new stop

-- the seat learnt these values
pub record Learns {V : Type 0} (values : List V) (before : Work V) (old new : LaneView V) : Type 0 where
  pub goes_on : IsPrefix before.seat.values values
  pub new_is : new ≡ record old { work = Some (record before { seat = record before.seat { values = values } }) }

-- the lines behind the mark were answered, where the lane stopped at it
abbrev pub GoesBehind : {V : Type 0} → (V → Option (List ℕ) → List ℕ → Type 0) → Work V → LaneView V → LaneView V → Stop → Type 0
GoesBehind {V} Replies before old new Marked =
    (ending : Ending) × (after : Work V) × (new.work ≡ Some after) × (after.stop ≡ Some (Ended ending)) × (after.seat ≡ before.seat) × HasCauses old new (Ended ending)
    × ((budget : ℕ) (left0 held0 : Option (List ℕ)) → IsRest Replies before.seat budget left0 old.left held0 old.held before.reader → HasLane Replies before.seat.values before.seat.entered budget left0 new.left held0 new.held ending)
GoesBehind Replies before old new (Ended ending) = new ≡ old

-- a lane was answered to its end over these values, of which the last one answers what stands behind its mark. They may be what the
-- values of its seat stand for
pub record IsServed {V W : Type 0} (Replies : W → Option (List ℕ) → List ℕ → Type 0) (values : List W) (budget : ℕ) (old new : LaneView V) (ending : Ending) : Type 0 where
  pub after : Work V
  pub after_is : new.work ≡ Some after
  pub stop_is : after.stop ≡ Some (Ended ending)
  pub answered : HasLane Replies values after.seat.entered budget old.left new.left old.held new.held ending
  pub causes : HasCauses old new (Ended ending)
