-- Laws of these definitions.
use Rattle.std.specs.Prelude.{◌≡◌, ◌≤◌, ◌++◌, ℕ, List, [], ◌∷◌, Option, length}
use mathlib.Core.List.{IsPrefix}
use Rattle.reply_meaning.specs.Transcripts.{HasAnswered, IsTranscript, WithoutState}
use Rattle.reply_meaning.specs.declared.ending.Ending.{Ending}
use Rattle.lane_meaning.specs.Lanes.{Answers, AnswersBeside, HasEnteredFor, HasLane, Place, beside, behind, start}

-- what a lane's output gets beside the publishing, over the values so far, is what it gets over all values
abbrev pub LaneGrows : {V : Type 0} → (V → Option (List ℕ) → List ℕ → Type 0) → Type 0
LaneGrows {V} Replies =
    (values all : List V) (entered budget : ℕ) (left0 left held0 held : Option (List ℕ)) (ending : Ending)
    → IsPrefix values all → HasAnswered (AnswersBeside Replies values entered) start budget 0 left0 left held0 held ending → HasLane Replies all entered budget left0 left held0 held ending

-- the numbers of a lane's replies never fall
abbrev pub NumbersNeverFall : {V : Type 0} → (V → Option (List ℕ) → List ℕ → Type 0) → Type 0
NumbersNeverFall {V} Replies =
    (values : List V) (entered seen answered number answers : ℕ) (lines : List (Option (List ℕ))) (bytes : List ℕ)
    → IsTranscript (Answers Replies values entered) (beside seen answered) lines bytes (beside number answers) → seen ≤ number

-- the seat of a lane entered for each of its lines before the first mark
abbrev pub EntersForEach : {V : Type 0} → (V → Option (List ℕ) → List ℕ → Type 0) → Type 0
EntersForEach {V} Replies =
    (values : List V) (entered number answers : ℕ) (lines : List (Option (List ℕ))) (bytes : List ℕ)
    → IsTranscript (Answers Replies values entered) start lines bytes (beside number answers) → (answers ≡ length lines) × HasEnteredFor (length lines) entered

-- behind its first mark a lane stays, and answers a line at the last value
abbrev pub BehindIsLast : {V : Type 0} → (V → Option (List ℕ) → List ℕ → Type 0) → Type 0
BehindIsLast {V} Replies =
    (values : List V) (entered : ℕ) (line : Option (List ℕ)) (reply : List ℕ) (place : Place) → Answers Replies values entered behind line reply place
    → (front : List V) × (value : V) × (values ≡ front ++ value ∷ []) × Replies value line reply × (place ≡ behind)

-- so a transcript from there on has the reply to each line at that one value
abbrev pub BehindIsOneValue : {V : Type 0} → (V → Option (List ℕ) → List ℕ → Type 0) → Type 0
BehindIsOneValue {V} Replies =
    (front : List V) (value : V) (entered : ℕ) (lines : List (Option (List ℕ))) (bytes : List ℕ) (last : Place)
    → IsTranscript (Answers Replies (front ++ value ∷ []) entered) behind lines bytes last → IsTranscript (WithoutState (Replies value)) tt lines bytes tt × (last ≡ behind)
