-- What an output gets for the lines of an input, whatever the command: a transcript has the reply to each line, in order.
-- `Step` says which bytes are a reply to a line in a state, and which state is left then. A command whose replies depend on
-- the line alone has no state.
use Rattle.std.specs.Prelude.{◌≡◌, ◌≤◌, ◌+◌, ◌++◌, ℕ, Bool, true, false, List, [], ◌∷◌, length, Option}
use Rattle.std.specs.Io.KnownBytes.{Consumes, Appends, IsAtEnd}
use Rattle.fsm_io.specs.Buffers.{most_ahead}
use Rattle.fsm_io.specs.Lines.{lines_of}
use Rattle.reply_meaning.specs.declared.ending.Ending.{Ending}
use Rattle.reply_meaning.specs.declared.ending.Ending.TheVariants.{Finished, WriteFailed, ReadFailed, Spent}

-- the number of the version that is loaded
abbrev pub first_version : ℕ
first_version = 1

-- from the first state to the last, a reply to each line, one after another
abbrev pub IsTranscript : {S : Type 0} → (S → Option (List ℕ) → List ℕ → S → Type 0) → S → List (Option (List ℕ)) → List ℕ → S → Type 0
IsTranscript Step first [] bytes last = (bytes ≡ []) × (first ≡ last)
IsTranscript {S} Step first (line ∷ lines) bytes last =
    (reply : List ℕ) × (rest : List ℕ) × (next : S) × (bytes ≡ reply ++ rest) × Step first line reply next × IsTranscript Step next lines rest last

-- replies that depend on the line alone
abbrev pub WithoutState : (Option (List ℕ) → List ℕ → Type 0) → Unit {0} → Option (List ℕ) → List ℕ → Unit {0} → Type 0
WithoutState R before line reply after = R line reply

-- Of what the output gets for these lines no more is wanting than a rest of the last reply and, of the replies before it, so many bytes as may be
-- gathered before they are written
pub record WantsFew {S : Type 0} (Step : S → Option (List ℕ) → List ℕ → S → Type 0) (first last : S) (gathered : ℕ) (heard : List (Option (List ℕ))) (written rest : List ℕ) : Type 0 where
  pub before : List (Option (List ℕ))
  pub one : List (Option (List ℕ))
  pub answered : List ℕ
  pub reply : List ℕ
  pub middle : S
  pub lines_are : heard ≡ before ++ one
  pub at_most_one : length one ≤ 1
  pub bytes_are : written ++ rest ≡ answered ++ reply
  pub replies_before : IsTranscript Step first before answered middle
  pub last_reply : IsTranscript Step middle one reply last
  pub few : length answered ≤ length written + gathered

-- a front of a transcript of some front of the lines of these bytes, up to a write that failed. The lines behind it stand in bytes that were taken
-- with them, and these are no more than one read gives. A last piece without newline is among the lines only where the input is at its end
pub record IsCutShort {S : Type 0} (Step : S → Option (List ℕ) → List ℕ → S → Type 0) (first : S) (gathered : ℕ) (left : Option (List ℕ)) (taken written : List ℕ) : Type 0 where
  pub ended : Bool
  pub heard : List (Option (List ℕ))
  pub ahead : List ℕ
  pub rest : List ℕ
  pub last : S
  pub lines_are : lines_of ended taken ≡ heard ++ lines_of ended ahead
  pub few : length ahead ≤ most_ahead
  pub at_end : ended ≡ true → IsAtEnd left
  pub transcript : IsTranscript Step first heard (written ++ rest) last
  pub wants : WantsFew Step first last gathered heard written rest

-- what was written for the bytes taken, by how it ended, where so many bytes of replies may be gathered before they are written. A last piece
-- without newline is a line only where the input was read to its end
abbrev pub IsWritten : {S : Type 0} → (S → Option (List ℕ) → List ℕ → S → Type 0) → S → S → ℕ → Ending → Option (List ℕ) → List ℕ → List ℕ → Type 0
IsWritten Step first last gathered Finished left taken written = IsAtEnd left × IsTranscript Step first (lines_of true taken) written last
IsWritten Step first last gathered WriteFailed left taken written = IsCutShort Step first gathered left taken written
IsWritten Step first last gathered ReadFailed left taken written = IsTranscript Step first (lines_of false taken) written last
IsWritten Step first last gathered Spent left taken written = IsTranscript Step first (lines_of false taken) written last

-- the bytes taken from the input, `budget` at most, and what the output got for them, where `gathered` bytes of replies at most wait to be written
pub record HasAnswered {S : Type 0} (Step : S → Option (List ℕ) → List ℕ → S → Type 0) (first : S) (budget gathered : ℕ) (left0 left held0 held : Option (List ℕ)) (ending : Ending) : Type 0 where
  pub taken : List ℕ
  pub written : List ℕ
  pub last : S
  pub consumed : Consumes left0 left taken
  pub appended : Appends held0 held written
  pub output : IsWritten Step first last gathered ending left taken written
  pub spends : ending ≡ Spent → length taken ≡ budget
