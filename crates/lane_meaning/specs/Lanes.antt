-- What a lane's output gets for its input over a list of published values. The first value has the number 1. `Replies` says which
-- bytes are a reply to a line at a value; a line is `None` where it is too long to be told.
use Rattle.std.specs.Prelude.{◌≡◌, ◌≤◌, ◌+◌, ◌-◌, ◌^◌, ◌++◌, ℕ, List, [], ◌∷◌, length, min, Option, None, Some, codes}
use Rattle.reply_meaning.specs.Replies.{without_return}
use Rattle.reply_meaning.specs.Transcripts.{HasAnswered}
use Rattle.reply_meaning.specs.declared.ending.Ending.{Ending}

-- the line is the mark `---`; a carriage return at its end is dropped
abbrev pub IsMark : Option (List ℕ) → Type 0
IsMark None = ⊥
IsMark (Some line) = without_return line ≡ codes "---"

-- where a lane is: before its first mark, with the number of the value at which it was answered last, which is 0 at first, and how
-- many of its lines were answered; or behind that mark
pub data Place : Type 0 where
  beside : (seen answered : ℕ) → Place
  behind : Place

abbrev pub start : Place
start = beside 0 0

-- a seat that entered so often did so for each of this many lines; its count of 64 bits stays at the last number
abbrev pub HasEnteredFor : ℕ → ℕ → Type 0
HasEnteredFor lines entered = min lines (2 ^ 64 - 1) ≤ entered

-- the value with this number
pub record HasNumber {V : Type 0} (values : List V) (number : ℕ) (value : V) : Type 0 where
  pub front : List V
  pub back : List V
  pub values_are : values ≡ front ++ value ∷ back
  pub number_is : number ≡ length front + 1

-- a line before the first mark is answered at a value whose number is no smaller than the one before, and the seat entered for it as
-- for each line before it
pub record AnswersAt {V : Type 0} (Replies : V → Option (List ℕ) → List ℕ → Type 0) (values : List V) (entered seen answered : ℕ) (line : Option (List ℕ)) (reply : List ℕ) (number answers : ℕ) : Type 0 where
  pub value : V
  pub unmarked : IsMark line → ⊥
  pub later : seen ≤ number
  pub counted : answers ≡ answered + 1
  pub entered_for : HasEnteredFor answers entered
  pub has : HasNumber values number value
  pub lawful : Replies value line reply

-- What a lane answers whose seat entered so often. The first mark has no reply, and each line behind it is answered at the last
-- value.
abbrev pub Answers : {V : Type 0} → (V → Option (List ℕ) → List ℕ → Type 0) → List V → ℕ → Place → Option (List ℕ) → List ℕ → Place → Type 0
Answers Replies values entered (beside seen answered) line reply (beside number answers) = AnswersAt Replies values entered seen answered line reply number answers
Answers Replies values entered (beside seen answered) line reply behind = IsMark line × (reply ≡ [])
Answers Replies values entered behind line reply (beside number answers) = ⊥
Answers {V} Replies values entered behind line reply behind = (value : V) × HasNumber values (length values) value × Replies value line reply

-- the same up to the mark, which is what a lane does while further values may be published
abbrev pub AnswersBeside : {V : Type 0} → (V → Option (List ℕ) → List ℕ → Type 0) → List V → ℕ → Place → Option (List ℕ) → List ℕ → Place → Type 0
AnswersBeside Replies values entered (beside seen answered) line reply place = Answers Replies values entered (beside seen answered) line reply place
AnswersBeside Replies values entered behind line reply place = ⊥

-- what a lane's output got for the bytes that were taken of its input, by how often its seat entered and how the answering ended. Each reply is
-- written before the next line is answered, so that nothing is gathered
abbrev pub HasLane : {V : Type 0} → (V → Option (List ℕ) → List ℕ → Type 0) → List V → ℕ → ℕ → Option (List ℕ) → Option (List ℕ) → Option (List ℕ) → Option (List ℕ) → Ending → Type 0
HasLane Replies values entered budget left0 left held0 held ending = HasAnswered (Answers Replies values entered) start budget 0 left0 left held0 held ending
