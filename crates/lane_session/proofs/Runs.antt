-- How what was read and written so far grows from line to line, and what it is at the end.
use Rattle.std.proofs.Common.{◌≡◌, ◌≤◌, ◌⊎◌, ◌+◌, ◌-◌, ◌^◌, ◌++◌, min, ◌∷◌, [], ℕ, true, false, inl, List, Option, None, Some, Result, Ok, Err, is_ok, if◌then◌else◌, refl, sym, ap, subst, ◌∙◌, append_assoc, append-nil, length, length-append, arith}
use Rattle.std.specs.Io.KnownBytes.{Appends}
use mathlib.Core.List.{IsPrefix}
use Rattle.fsm_io.specs.Buffers.{most_ahead}
use Rattle.fsm_io.specs.Reading.{HasTold, LinesView, at_start}
use Rattle.fsm_io.proofs.Known.{appends_more, appends_none}
use Rattle.fsm_io.proofs.Streams.{told_all, told_behind, told_so_far, told_start}
use Rattle.reply_meaning.specs.Transcripts.{HasAnswered, IsTranscript}
use Rattle.reply_meaning.specs.declared.ending.Ending.{Ending}
use Rattle.reply_meaning.specs.declared.ending.Ending.TheVariants.{Finished, WriteFailed, ReadFailed, Spent}
use Rattle.lane_meaning.specs.Lanes.{Answers, HasEnteredFor, HasLane, HasNumber, IsMark, Place, beside, behind, start}
use Rattle.lane_meaning.proofs.Growing.{lane_more, step_beside_more, step_more, transcript_by}
use Rattle.publish_board.specs.Boards.{Seated}
use Rattle.lane_session.specs.Running.{HasStopped, IsBehind, IsBeside, IsRest, Sofar, StepsBeside, TurnsBehind, TurnsBeside}
use Rattle.lane_session.specs.Sending.{AnswersLine, RepliesBeside, Sends}
use Rattle.lane_session.specs.declared.session.Stop.{Stop}
use Rattle.lane_session.specs.declared.session.Stop.TheVariants.{Marked, Ended}
use Rattle.lane_session.proofs.Sent.{appends_all}

-- ---- any step

module _ (Step : Place → Option (List ℕ) → List ℕ → Place → Type 0) where
  -- a reply to one line more
  transcript_more : (first middle last : Place) (lines : List (Option (List ℕ))) (bytes reply : List ℕ) (line : Option (List ℕ)) → IsTranscript Step first lines bytes middle → Step middle line reply last
      → IsTranscript Step first (lines ++ line ∷ []) (bytes ++ reply) last
  transcript_more first middle last [] bytes reply line (none, same) lawful =
      (reply, [], last, ap (λ (z : List ℕ). z ++ reply) none ∙ sym (append-nil reply), subst (λ (s : Place). Step s line reply last) (sym same) lawful, (refl, refl))
  transcript_more first middle last (head ∷ lines) bytes reply line (said, rest, next, is, lawful_head, others) lawful =
      (said, rest ++ reply, next, ap (λ (z : List ℕ). z ++ reply) is ∙ append_assoc said rest reply, lawful_head, transcript_more next middle last lines rest reply line others lawful)

  -- nothing was read and nothing written
  pub sofar_start : (budget : ℕ) (left held : Option (List ℕ)) (reader : LinesView) → reader ≡ at_start budget → Sofar Step start budget left left held held reader
  sofar_start budget left held reader begins = record {
    lines = [];
    written = [];
    told = told_start left budget reader begins;
    settled = inl (ap (λ (r : LinesView). r.begun) begins);
    few = omega (arith, ap (λ (r : LinesView). length r.ahead) begins);
    appended = appends_none held;
    transcript = (refl, refl);
  }

  module _ (budget : ℕ) (left0 left1 left held0 held1 held : Option (List ℕ)) (old new : LinesView) (place next : Place) (s : Sofar Step place budget left0 left1 held0 held1 old) (line : Option (List ℕ))
      (told : HasTold left0 left budget new (s.lines ++ line ∷ [])) (settled : (new.begun ≡ []) ⊎ (new.ahead ≡ [])) (few : length new.ahead ≤ most_ahead) (reply : List ℕ) (lawful : Step place line reply next) where
    -- a line was told and its reply written
    pub sofar_more : Appends held1 held reply → Sofar Step next budget left0 left held0 held new
    sofar_more appended = record {
      lines = s.lines ++ line ∷ [];
      written = s.written ++ reply;
      told = told;
      settled = settled;
      few = few;
      appended = appends_more held0 held1 held s.written reply s.appended appended;
      transcript = transcript_more start place next s.lines s.written reply line s.transcript lawful;
    }

    parted : (front rest : List ℕ) → reply ≡ front ++ rest → s.written ++ reply ≡ (s.written ++ front) ++ rest
    parted front rest is = ap (λ (z : List ℕ). s.written ++ z) is ∙ sym (append_assoc s.written front rest)

    -- its reply failed: the output has a front of the replies to what was told
    pub cut_short : (front rest : List ℕ) → reply ≡ front ++ rest → Appends held1 held front → HasAnswered Step start budget 0 left0 left held0 held WriteFailed
    cut_short front rest is appended = record {
      taken = told.read.taken;
      written = s.written ++ front;
      last = next;
      consumed = told.read.consumed;
      appended = appends_more held0 held1 held s.written front s.appended appended;
      output = record {
        ended = new.ended;
        heard = s.lines ++ line ∷ [];
        ahead = new.ahead;
        rest = rest;
        last = next;
        lines_are = told_behind left0 left budget new (s.lines ++ line ∷ []) told settled;
        few = few;
        at_end = λ ended. (told.read.ends ended).3;
        transcript = subst (λ (z : List ℕ). IsTranscript Step start (s.lines ++ line ∷ []) z next) (parted front rest is) (transcript_more start place next s.lines s.written reply line s.transcript lawful);
        wants = record {
          before = s.lines;
          one = line ∷ [];
          answered = s.written;
          reply = reply;
          middle = place;
          lines_are = refl;
          at_most_one = omega arith;
          bytes_are = sym (parted front rest is);
          replies_before = s.transcript;
          last_reply = (reply, [], next, sym (append-nil reply), lawful, (refl, refl));
          few = omega (arith, length-append s.written front);
        };
      };
      spends = λ (is : WriteFailed ≡ Spent). cc;
    }

  -- ---- the end, where no line was told

  module _ (budget : ℕ) (left0 left1 left held0 held : Option (List ℕ)) (old new : LinesView) (place : Place) (s : Sofar Step place budget left0 left1 held0 held old) (same : HasTold left0 left budget new (s.lines ++ [])) where
    told_same : HasTold left0 left budget new s.lines
    told_same = subst (λ (z : List (Option (List ℕ))). HasTold left0 left budget new z) (append-nil s.lines) same

    pub answered_to_end : new.ended ≡ true → HasAnswered Step start budget 0 left0 left held0 held Finished
    answered_to_end ended =
        let all = told_all left0 left budget new s.lines told_same ended in
        record {
          taken = told_same.read.taken;
          written = s.written;
          last = place;
          consumed = told_same.read.consumed;
          appended = s.appended;
          output = (all.1, subst (λ (z : List (Option (List ℕ))). IsTranscript Step start z s.written place) (sym all.0) s.transcript);
          spends = λ (is : Finished ≡ Spent). cc;
        }

    pub answered_so_far : new.ended ≡ false → new.ahead ≡ [] → HasAnswered Step start budget 0 left0 left held0 held ReadFailed
    answered_so_far ended ahead =
        let all = told_so_far left0 left budget new s.lines told_same ended ahead in
        record {
          taken = told_same.read.taken;
          written = s.written;
          last = place;
          consumed = told_same.read.consumed;
          appended = s.appended;
          output = subst (λ (z : List (Option (List ℕ))). IsTranscript Step start z s.written place) (sym all) s.transcript;
          spends = λ (is : ReadFailed ≡ Spent). cc;
        }

    pub answered_within_budget : new.ended ≡ false → new.ahead ≡ [] → new.budget ≡ 0 → HasAnswered Step start budget 0 left0 left held0 held Spent
    answered_within_budget ended ahead spent =
        let all = told_so_far left0 left budget new s.lines told_same ended ahead in
        record {
          taken = told_same.read.taken;
          written = s.written;
          last = place;
          consumed = told_same.read.consumed;
          appended = s.appended;
          output = subst (λ (z : List (Option (List ℕ))). IsTranscript Step start z s.written place) (sym all) s.transcript;
          spends = λ _. omega (arith, told_same.read.spent, spent);
        }

-- what is so by a step is so by one that allows more
abbrev pub sofar_by : (A B : Place → Option (List ℕ) → List ℕ → Place → Type 0) → ((p : Place) (line : Option (List ℕ)) (reply : List ℕ) (q : Place) → A p line reply q → B p line reply q)
    → (place : Place) (budget : ℕ) (left0 left held0 held : Option (List ℕ)) (reader : LinesView) → Sofar A place budget left0 left held0 held reader → Sofar B place budget left0 left held0 held reader
sofar_by A B more place budget left0 left held0 held reader s = record {
  lines = s.lines;
  written = s.written;
  told = s.told;
  settled = s.settled;
  few = s.few;
  appended = s.appended;
  transcript = transcript_by A B more start place s.lines s.written s.transcript;
}

-- ---- beside the publishing

-- the count of a seat that entered once more is of the lines before and of one more
still_entered : (before now : ℕ) → now ≡ min (before + 1) (2 ^ 64 - 1) → (lines : ℕ) → HasEnteredFor lines before → HasEnteredFor lines now
still_entered before now is lines h = omega (arith, is, h)

entered_again : (before now : ℕ) → now ≡ min (before + 1) (2 ^ 64 - 1) → (lines : ℕ) → HasEnteredFor lines before → HasEnteredFor (lines + 1) now
entered_again before now is lines h = omega (arith, is, h)

module _ {V : Type 0} (Replies : V → Option (List ℕ) → List ℕ → Type 0) where
  pub beside_start : (seat : Seated V) (budget : ℕ) (left held : Option (List ℕ)) (reader : LinesView) → reader ≡ at_start budget → IsBeside Replies seat budget left left held held reader
  beside_start seat budget left held reader begins =
      record { seen = 0; answered = 0; published = omega arith; entered_for = omega arith; sofar = sofar_start (StepsBeside Replies seat) budget left held reader begins }

  prefix_length : (before values : List V) → IsPrefix before values → length before ≤ length values
  prefix_length before values p = omega (arith, ap length p.1, length-append before p.0)

  module _ (before now : Seated V) (budget : ℕ) (left0 left1 left held0 held1 held : Option (List ℕ)) (old new : LinesView) (s : IsBeside Replies before budget left0 left1 held0 held1 old) where
    -- the next line's reply is lawful over the values that there are then
    module _ (line : Option (List ℕ)) (r : RepliesBeside Replies before now line) where
      abbrev lifted : Sofar (StepsBeside Replies now) (beside s.seen s.answered) budget left0 left1 held0 held1 old
      lifted = sofar_by (StepsBeside Replies before) (StepsBeside Replies now)
          (step_beside_more Replies before.values now.values r.enters.goes_on before.entered now.entered (still_entered before.entered now.entered r.enters.entered)) (beside s.seen s.answered) budget left0 left1 held0 held1 old s.sofar

      step : StepsBeside Replies now (beside s.seen s.answered) line r.reply (beside (length now.values) (s.answered + 1))
      step = record {
        value = r.value;
        unmarked = r.unmarked;
        later = omega (arith, s.published, prefix_length before.values now.values r.enters.goes_on);
        counted = refl;
        entered_for = entered_again before.entered now.entered r.enters.entered s.answered s.entered_for;
        has = r.has;
        lawful = r.lawful;
      }

    module _ (line : Option (List ℕ)) (told : HasTold left0 left budget new (s.sofar.lines ++ line ∷ [])) (settled : (new.begun ≡ []) ⊎ (new.ahead ≡ [])) (few : length new.ahead ≤ most_ahead) where
      marked : IsMark line → now ≡ before → held ≡ held1 → IsBehind Replies now budget left0 left held0 held new
      marked is same written =
          subst (λ (seat : Seated V). IsBehind Replies seat budget left0 left held0 held new) (sym same)
          (sofar_more (StepsBeside Replies before) budget left0 left1 left held0 held1 held old new (beside s.seen s.answered) behind s.sofar line told settled few [] (is, refl) (subst (λ (h : Option (List ℕ)). Appends held1 h []) (sym written) (appends_none held1)))

      pub turned : (stop : Option Stop) → AnswersLine Replies before now line held1 held stop → TurnsBeside Replies now budget left0 left held0 held new stop
      turned None (r, appended) = record {
        seen = length now.values;
        answered = s.answered + 1;
        published = omega arith;
        entered_for = entered_again before.entered now.entered r.enters.entered s.answered s.entered_for;
        sofar = sofar_more (StepsBeside Replies now) budget left0 left1 left held0 held1 held old new (beside s.seen s.answered) (beside (length now.values) (s.answered + 1)) (lifted line r) line told settled few r.reply (step line r) appended;
      }
      turned (Some Marked) (is, same, written) = marked is same written
      turned (Some (Ended Finished)) a = absurd a
      turned (Some (Ended WriteFailed)) (r, front, rest, is, appended) =
          cut_short (StepsBeside Replies now) budget left0 left1 left held0 held1 held old new (beside s.seen s.answered) (beside (length now.values) (s.answered + 1)) (lifted line r) line told settled few r.reply (step line r) front rest is appended
      turned (Some (Ended ReadFailed)) a = absurd a
      turned (Some (Ended Spent)) a = absurd a

-- ---- behind the mark

module _ {V : Type 0} (Replies : V → Option (List ℕ) → List ℕ → Type 0) (seat : Seated V) where
  abbrev Rest : Place → Option (List ℕ) → List ℕ → Place → Type 0
  Rest = Answers Replies seat.values seat.entered

  pub turned_behind : {T E : Type 0} (budget : ℕ) (left0 left1 left held0 held1 held : Option (List ℕ)) (old new : LinesView) (s : IsRest Replies seat budget left0 left1 held0 held1 old) (line : Option (List ℕ))
      → HasTold left0 left budget new (s.lines ++ line ∷ []) → (new.begun ≡ []) ⊎ (new.ahead ≡ []) → length new.ahead ≤ most_ahead → (value : V) → HasNumber seat.values (length seat.values) value
      → (r : Result T E) → Sends (Replies value line) held1 held r → (ending : Option Ending) → ending ≡ (if is_ok r then None else Some WriteFailed) → TurnsBehind Replies seat budget left0 left held0 held new ending
  turned_behind {T} {E} budget left0 left1 left held0 held1 held old new s line told settled few value has (Ok v) sends ending is =
      subst (λ (e : Option Ending). TurnsBehind Replies seat budget left0 left held0 held new e) (sym is)
      (sofar_more Rest budget left0 left1 left held0 held1 held old new behind behind s line told settled few sends.reply (value, has, sends.lawful) (appends_all {T = T} {E = E} held1 held sends.reply v sends.sent))
  turned_behind {T} {E} budget left0 left1 left held0 held1 held old new s line told settled few value has (Err e) sends ending is =
      subst (λ (e : Option Ending). TurnsBehind Replies seat budget left0 left held0 held new e) (sym is)
      (cut_short Rest budget left0 left1 left held0 held1 held old new behind behind s line told settled few sends.reply (value, has, sends.lawful) sends.sent.front sends.sent.rest sends.sent.whole sends.sent.appended)

-- what was answered beside the publishing is so over all values, which the seat learns without entering
module _ {V : Type 0} (Replies : V → Option (List ℕ) → List ℕ → Type 0) (seat : Seated V) (all : List V) (prefix : IsPrefix seat.values all) (budget : ℕ) (left0 left held0 held : Option (List ℕ)) (reader : LinesView) where
  pub rest_begins : IsBehind Replies seat budget left0 left held0 held reader → IsRest Replies (record seat { values = all }) budget left0 left held0 held reader
  rest_begins s =
      sofar_by (StepsBeside Replies seat) (Answers Replies all seat.entered) (step_more Replies seat.values all prefix seat.entered seat.entered (λ lines h. h)) behind budget left0 left held0 held reader s

  pub stopped_whole : (ending : Ending) → HasStopped Replies seat budget left0 left held0 held reader (Ended ending) → HasLane Replies all seat.entered budget left0 left held0 held ending
  stopped_whole ending h = lane_more Replies seat.values all prefix seat.entered seat.entered (λ lines h. h) budget left0 left held0 held ending h
