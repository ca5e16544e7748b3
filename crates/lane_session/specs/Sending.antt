-- What a reply to a line does to a lane's output.
use Rattle.std.specs.Prelude.{◌≡◌, ◌++◌, ◌+◌, ◌-◌, ◌^◌, min, ℕ, List, Option, None, Some, Result, length}
use Rattle.std.specs.Io.KnownBytes.{Appends}
use mathlib.Core.List.{IsPrefix}
use Rattle.fsm_io.specs.Sinks.{WritesAll}
use Rattle.publish_board.specs.Boards.{Seated}
use Rattle.reply_meaning.specs.declared.ending.Ending.TheVariants.{Finished, WriteFailed, ReadFailed, Spent}
use Rattle.lane_meaning.specs.Lanes.{HasNumber, IsMark}
use Rattle.reply_meaning.specs.Replies.{headed}
use Rattle.reply_text.specs.Heads.{head_word}
use Rattle.lane_session.specs.declared.answers.Reply.{Reply}
use Rattle.lane_session.specs.declared.answers.Reply.TheVariants.{Bytes, Short}
use Rattle.lane_session.specs.declared.session.Stop.{Stop}
use Rattle.lane_session.specs.declared.session.Stop.TheVariants.{Marked, Ended}

-- the bytes of a reply at the value with this number
abbrev pub bytes_of : ℕ → Reply → List ℕ
bytes_of number (Bytes bytes) = bytes.items
bytes_of number (Short head) = headed number (head_word head)

-- a reply that is lawful was written, or a front of it where the output failed
pub record Sends {T E : Type 0} (R : List ℕ → Type 0) (held0 held : Option (List ℕ)) (result : Result T E) : Type 0 where
  pub reply : List ℕ
  pub lawful : R reply
  pub sent : WritesAll held0 held reply result

-- the seat entered once: it has a value that is no older, and counts the entering up to the last number of 64 bits
pub record EntersOnce {V : Type 0} (before now : Seated V) : Type 0 where
  pub board : now.board ≡ before.board
  pub goes_on : IsPrefix before.values now.values
  pub entered : now.entered ≡ min (before.entered + 1) (2 ^ 64 - 1)

-- a line before the mark has a reply at the value that the seat has after it entered
pub record RepliesBeside {V : Type 0} (Replies : V → Option (List ℕ) → List ℕ → Type 0) (before now : Seated V) (line : Option (List ℕ)) : Type 0 where
  pub value : V
  pub reply : List ℕ
  pub unmarked : IsMark line → ⊥
  pub enters : EntersOnce before now
  pub has : HasNumber now.values (length now.values) value
  pub lawful : Replies value line reply

-- what came of a line beside the publishing: its reply was written; it is the mark; or its reply failed
abbrev pub AnswersLine : {V : Type 0} → (V → Option (List ℕ) → List ℕ → Type 0) → Seated V → Seated V → Option (List ℕ) → Option (List ℕ) → Option (List ℕ) → Option Stop → Type 0
AnswersLine Replies before now line held0 held None = (r : RepliesBeside Replies before now line) × Appends held0 held r.reply
AnswersLine Replies before now line held0 held (Some Marked) = IsMark line × (now ≡ before) × (held ≡ held0)
AnswersLine Replies before now line held0 held (Some (Ended Finished)) = ⊥
AnswersLine Replies before now line held0 held (Some (Ended WriteFailed)) = (r : RepliesBeside Replies before now line) × (front : List ℕ) × (rest : List ℕ) × (r.reply ≡ front ++ rest) × Appends held0 held front
AnswersLine Replies before now line held0 held (Some (Ended ReadFailed)) = ⊥
AnswersLine Replies before now line held0 held (Some (Ended Spent)) = ⊥
