-- What an output gets by one step is what it gets by another that allows more; and what is lawful over some values is lawful over more
-- of them, and where the seat entered more often.
use Rattle.std.proofs.Common.{◌≡◌, ◌≤◌, ◌+◌, ◌++◌, ◌∷◌, [], ℕ, List, Option, length, sym, ap, subst, ◌∙◌, append_assoc, arith}
use mathlib.Core.List.{IsPrefix}
use Rattle.reply_meaning.specs.Transcripts.{HasAnswered, IsTranscript, IsWritten, WantsFew}
use Rattle.reply_meaning.specs.declared.ending.Ending.{Ending}
use Rattle.reply_meaning.specs.declared.ending.Ending.TheVariants.{Finished, WriteFailed, ReadFailed, Spent}
use Rattle.lane_meaning.specs.Lanes.{Answers, AnswersAt, AnswersBeside, HasEnteredFor, HasLane, HasNumber, Place, beside, behind, start}

-- ---- a step that allows more

module _ {S : Type 0} (A B : S → Option (List ℕ) → List ℕ → S → Type 0) (more : (p : S) (line : Option (List ℕ)) (reply : List ℕ) (q : S) → A p line reply q → B p line reply q) where
  pub transcript_by : (first last : S) (lines : List (Option (List ℕ))) (bytes : List ℕ) → IsTranscript A first lines bytes last → IsTranscript B first lines bytes last
  transcript_by first last [] bytes t = t
  transcript_by first last (line ∷ lines) bytes (reply, rest, next, is, step, others) = (reply, rest, next, is, more first line reply next step, transcript_by next last lines rest others)

  wants_by : (first last : S) (gathered : ℕ) (heard : List (Option (List ℕ))) (written rest : List ℕ) → WantsFew A first last gathered heard written rest → WantsFew B first last gathered heard written rest
  wants_by first last gathered heard written rest w = record {
    before = w.before;
    one = w.one;
    answered = w.answered;
    reply = w.reply;
    middle = w.middle;
    lines_are = w.lines_are;
    at_most_one = w.at_most_one;
    bytes_are = w.bytes_are;
    replies_before = transcript_by first w.middle w.before w.answered w.replies_before;
    last_reply = transcript_by w.middle last w.one w.reply w.last_reply;
    few = w.few;
  }

  written_by : (first last : S) (gathered : ℕ) (ending : Ending) (left : Option (List ℕ)) (taken written : List ℕ) → IsWritten A first last gathered ending left taken written → IsWritten B first last gathered ending left taken written
  written_by first last gathered Finished left taken written w = (w.0, transcript_by first last _ written w.1)
  written_by first last gathered WriteFailed left taken written w = record {
    ended = w.ended;
    heard = w.heard;
    ahead = w.ahead;
    rest = w.rest;
    last = w.last;
    lines_are = w.lines_are;
    few = w.few;
    at_end = w.at_end;
    transcript = transcript_by first w.last w.heard (written ++ w.rest) w.transcript;
    wants = wants_by first w.last gathered w.heard written w.rest w.wants;
  }
  written_by first last gathered ReadFailed left taken written w = transcript_by first last _ written w
  written_by first last gathered Spent left taken written w = transcript_by first last _ written w

  pub answered_by : (first : S) (budget gathered : ℕ) (left0 left held0 held : Option (List ℕ)) (ending : Ending) → HasAnswered A first budget gathered left0 left held0 held ending → HasAnswered B first budget gathered left0 left held0 held ending
  answered_by first budget gathered left0 left held0 held ending a = record {
    taken = a.taken;
    written = a.written;
    last = a.last;
    consumed = a.consumed;
    appended = a.appended;
    output = written_by first a.last gathered ending left a.taken a.written a.output;
    spends = a.spends;
  }

-- ---- more values, and a seat whose count is of as many lines and more

module _ {V : Type 0} (Replies : V → Option (List ℕ) → List ℕ → Type 0) (values all : List V) (prefix : IsPrefix values all) (entered more : ℕ) (counts : (lines : ℕ) → HasEnteredFor lines entered → HasEnteredFor lines more) where
  number_more : (number : ℕ) (value : V) → HasNumber values number value → HasNumber all number value
  number_more number value h = record {
    front = h.front;
    back = h.back ++ prefix.0;
    values_are = sym prefix.1 ∙ ap (λ (l : List V). l ++ prefix.0) h.values_are ∙ append_assoc h.front (value ∷ h.back) prefix.0;
    number_is = h.number_is;
  }

  answer_more : (seen answered number answers : ℕ) (line : Option (List ℕ)) (reply : List ℕ) → AnswersAt Replies values entered seen answered line reply number answers → AnswersAt Replies all more seen answered line reply number answers
  answer_more seen answered number answers line reply a = record {
    value = a.value;
    unmarked = a.unmarked;
    later = a.later;
    counted = a.counted;
    entered_for = counts answers a.entered_for;
    has = number_more number a.value a.has;
    lawful = a.lawful;
  }

  -- a step beside the publishing is one over all values
  pub step_more : (p : Place) (line : Option (List ℕ)) (reply : List ℕ) (q : Place) → AnswersBeside Replies values entered p line reply q → Answers Replies all more p line reply q
  step_more (beside seen answered) line reply (beside number answers) a = answer_more seen answered number answers line reply a
  step_more (beside seen answered) line reply behind a = a
  step_more behind line reply q a = absurd a

  -- and one beside it, over more values
  pub step_beside_more : (p : Place) (line : Option (List ℕ)) (reply : List ℕ) (q : Place) → AnswersBeside Replies values entered p line reply q → AnswersBeside Replies all more p line reply q
  step_beside_more (beside seen answered) line reply (beside number answers) a = answer_more seen answered number answers line reply a
  step_beside_more (beside seen answered) line reply behind a = a
  step_beside_more behind line reply q a = absurd a

  pub lane_more : (budget : ℕ) (left0 left held0 held : Option (List ℕ)) (ending : Ending) → HasAnswered (AnswersBeside Replies values entered) start budget 0 left0 left held0 held ending → HasLane Replies all more budget left0 left held0 held ending
  lane_more budget left0 left held0 held ending a = answered_by (AnswersBeside Replies values entered) (Answers Replies all more) step_more start budget 0 left0 left held0 held ending a

-- ---- numbers and counts

module _ {V : Type 0} (Replies : V → Option (List ℕ) → List ℕ → Type 0) (values : List V) (entered : ℕ) where
  -- there is no way back over the mark
  stays_behind : (number answers : ℕ) (lines : List (Option (List ℕ))) (bytes : List ℕ) → IsTranscript (Answers Replies values entered) behind lines bytes (beside number answers) → ⊥
  stays_behind number answers [] bytes t = let same : behind ≡ beside number answers = t.1 in cc
  stays_behind number answers (line ∷ lines) bytes (reply, rest, beside next counted, is, step, others) = step
  stays_behind number answers (line ∷ lines) bytes (reply, rest, behind, is, step, others) = stays_behind number answers lines rest others

  pub never_falls : (seen answered number answers : ℕ) (lines : List (Option (List ℕ))) (bytes : List ℕ) → IsTranscript (Answers Replies values entered) (beside seen answered) lines bytes (beside number answers) → seen ≤ number
  never_falls seen answered number answers [] bytes t = let same : seen ≡ number = cc (t.1) in omega (arith, same)
  never_falls seen answered number answers (line ∷ lines) bytes (reply, rest, beside next counted, is, step, others) =
      let later = never_falls next counted number answers lines rest others in let first = step.later in omega (arith, later, first)
  never_falls seen answered number answers (line ∷ lines) bytes (reply, rest, behind, is, step, others) = absurd (stays_behind number answers lines rest others)

  -- where the seat entered for those answered before, it did so for each line
  pub enters_more : (seen answered number answers : ℕ) (lines : List (Option (List ℕ))) (bytes : List ℕ) → HasEnteredFor answered entered → IsTranscript (Answers Replies values entered) (beside seen answered) lines bytes (beside number answers)
      → (answers ≡ answered + length lines) × HasEnteredFor answers entered
  enters_more seen answered number answers [] bytes before t = let same : answered ≡ answers = cc (t.1) in (omega (arith, same), subst (λ (n : ℕ). HasEnteredFor n entered) same before)
  enters_more seen answered number answers (line ∷ lines) bytes before (reply, rest, beside next counted, is, step, others) =
      let all = enters_more next counted number answers lines rest step.entered_for others in (omega (arith, all.0, step.counted), all.1)
  enters_more seen answered number answers (line ∷ lines) bytes before (reply, rest, behind, is, step, others) = absurd (stays_behind number answers lines rest others)

  pub enters_each : (number answers : ℕ) (lines : List (Option (List ℕ))) (bytes : List ℕ) → IsTranscript (Answers Replies values entered) start lines bytes (beside number answers) → (answers ≡ length lines) × HasEnteredFor (length lines) entered
  enters_each number answers lines bytes t =
      let all = enters_more 0 0 number answers lines bytes (omega arith) t in
      let count : answers ≡ length lines = omega (arith, all.0) in
      (count, subst (λ (n : ℕ). HasEnteredFor n entered) count all.1)
