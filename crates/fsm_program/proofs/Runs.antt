-- How what was read and written so far grows from line to line, and what it is at the end.
use Rattle.std.proofs.Common.{◌≡◌, ℕ, true, false, List, [], ◌∷◌, ◌++◌, Option, Some, None, Result, Ok, Err, refl, sym, ap, subst, ◌∙◌, arith, append_assoc, append-nil, ◌≢◌, ◌+◌, ◌≤◌, ◌⊎◌, inl, length, length-append, is_ok, if◌then◌else◌}
use Rattle.std.specs.Io.KnownBytes.{Appends}
use Rattle.fsm_io.specs.Reading.{LinesView, HasTold, at_start}
use Rattle.fsm_io.specs.Sinks.{Gathers}
use Rattle.fsm_io.proofs.Known.{appends_none, appends_more}
use Rattle.fsm_io.specs.Buffers.{most_ahead, most_gathered}
use Rattle.fsm_io.proofs.Streams.{told_start, told_all, told_so_far, told_behind}
use Rattle.reply_meaning.specs.Transcripts.{IsTranscript, HasAnswered}
use Rattle.reply_meaning.specs.declared.ending.Ending.{Ending}
use Rattle.reply_meaning.specs.declared.ending.Ending.TheVariants.{Finished, WriteFailed, ReadFailed, Spent}
use Rattle.fsm_program.specs.Running.{Sofar, Turns, flushed}
use Rattle.fsm_io.specs.declared.source.Failed.{Failed}
use Rattle.fsm_program.specs.Sending.{Sends}

module _ {S : Type 0} (Step : S → Option (List ℕ) → List ℕ → S → Type 0) where
  -- a reply to one line more
  pub transcript_more : (first middle last : S) (lines : List (Option (List ℕ))) (bytes reply : List ℕ) (line : Option (List ℕ)) → IsTranscript Step first lines bytes middle → Step middle line reply last
      → IsTranscript Step first (lines ++ line ∷ []) (bytes ++ reply) last
  transcript_more first middle last [] bytes reply line (none, same) lawful =
      (reply, [], last, ap (λ (z : List ℕ). z ++ reply) none ∙ sym (append-nil reply), subst (λ (s : S). Step s line reply last) (sym same) lawful, (refl, refl))
  transcript_more first middle last (head ∷ lines) bytes reply line (said, rest, next, is, lawful_head, others) lawful =
      (said, rest ++ reply, next, ap (λ (z : List ℕ). z ++ reply) is ∙ append_assoc said rest reply, lawful_head, transcript_more next middle last lines rest reply line others lawful)

  module _ (first : S) where
    -- nothing was read and nothing written
    pub sofar_start : (budget : ℕ) (left held : Option (List ℕ)) (reader : LinesView) (gathered : List ℕ) → reader ≡ at_start budget → gathered ≡ [] → Sofar Step first budget left left held held reader gathered
    sofar_start budget left held reader gathered start empty = record {
      lines = [];
      written = [];
      last = first;
      told = told_start left budget reader start;
      settled = inl (ap (λ (r : LinesView). r.begun) start);
      few = omega (arith, ap (λ (r : LinesView). length r.ahead) start);
      few_gathered = omega (arith, ap length empty);
      appended = appends_none held;
      transcript = (empty, refl);
    }

    -- bytes of replies that were gathered, and some of them written
    pub transcript_sent : {T E : Type 0} (last : S) (lines : List (Option (List ℕ))) (held0 held1 held2 : Option (List ℕ)) (written gathered1 reply gathered2 : List ℕ) (r : T)
        → Appends held0 held1 written → IsTranscript Step first lines (written ++ (gathered1 ++ reply)) last → (g : Gathers {T = T} {E = E} held1 held2 gathered1 reply gathered2 (Ok r))
        → Appends held0 held2 (written ++ g.front) × IsTranscript Step first lines ((written ++ g.front) ++ gathered2) last
    transcript_sent last lines held0 held1 held2 written gathered1 reply gathered2 r appended t g =
        let same : written ++ (gathered1 ++ reply) ≡ (written ++ g.front) ++ gathered2 =
        ap (λ (z : List ℕ). written ++ z) g.whole ∙ ap (λ (z : List ℕ). written ++ (g.front ++ z)) (sym g.kept) ∙ sym (append_assoc written g.front gathered2) in
        (appends_more held0 held1 held2 written g.front appended g.appended, subst (λ (z : List ℕ). IsTranscript Step first lines z last) same t)

    -- a write failed: the output has a front of the replies to what was told. `one` is the line whose reply was to be gathered, if there was one
    cut_short : {T E : Type 0} (middle last : S) (budget : ℕ) (left0 left held0 held1 held2 : Option (List ℕ)) (reader : LinesView) (before one : List (Option (List ℕ))) (written gathered1 reply gathered2 : List ℕ) (e : E)
        → HasTold left0 left budget reader (before ++ one) → (reader.begun ≡ []) ⊎ (reader.ahead ≡ []) → length reader.ahead ≤ most_ahead → length gathered1 ≤ most_gathered → length one ≤ 1 → Appends held0 held1 written
        → IsTranscript Step first before (written ++ gathered1) middle → IsTranscript Step middle one reply last → IsTranscript Step first (before ++ one) (written ++ (gathered1 ++ reply)) last
        → Gathers {T = T} {E = E} held1 held2 gathered1 reply gathered2 (Err e) → HasAnswered Step first budget most_gathered left0 left held0 held2 WriteFailed
    cut_short middle last budget left0 left held0 held1 held2 reader before one written gathered1 reply gathered2 e told settled few few_gathered at_most_one appended t0 t1 t g =
        let same : written ++ (gathered1 ++ reply) ≡ (written ++ g.front) ++ g.rest = ap (λ (z : List ℕ). written ++ z) g.whole ∙ sym (append_assoc written g.front g.rest) in
        record {
          taken = told.read.taken;
          written = written ++ g.front;
          last = last;
          consumed = told.read.consumed;
          appended = appends_more held0 held1 held2 written g.front appended g.appended;
          output = record {
            ended = reader.ended;
            heard = before ++ one;
            ahead = reader.ahead;
            rest = g.rest;
            last = last;
            lines_are = told_behind left0 left budget reader (before ++ one) told settled;
            few = few;
            at_end = λ ended. (told.read.ends ended).3;
            transcript = subst (λ (z : List ℕ). IsTranscript Step first (before ++ one) z last) same t;
            wants = record {
              before = before;
              one = one;
              answered = written ++ gathered1;
              reply = reply;
              middle = middle;
              lines_are = refl;
              at_most_one = at_most_one;
              bytes_are = sym same ∙ sym (append_assoc written gathered1 reply);
              replies_before = t0;
              last_reply = t1;
              few = omega (arith, few_gathered, length-append written gathered1, length-append written g.front);
            };
          };
          spends = λ (is : WriteFailed ≡ Spent). cc;
        }

    module _ (budget : ℕ) (left0 left held0 held1 held2 : Option (List ℕ)) (gathered1 gathered2 : List ℕ) where
      nothing_more : (last : S) (written : List ℕ) (lines : List (Option (List ℕ))) → IsTranscript Step first lines (written ++ gathered1) last → IsTranscript Step first lines (written ++ (gathered1 ++ [])) last
      nothing_more last written lines t = subst (λ (z : List ℕ). IsTranscript Step first lines (written ++ z) last) (sym (append-nil gathered1)) t

      -- what was gathered is written, and all goes on
      pub sofar_flushed : {T E : Type 0} (reader : LinesView) (r : T) → Sofar Step first budget left0 left held0 held1 reader gathered1 → Gathers {T = T} {E = E} held1 held2 gathered1 [] gathered2 (Ok r) → Sofar Step first budget left0 left held0 held2 reader gathered2
      sofar_flushed reader r s g =
          let sent = transcript_sent s.last s.lines held0 held1 held2 s.written gathered1 [] gathered2 r s.appended (nothing_more s.last s.written s.lines s.transcript) g in
          let kept : length gathered2 ≤ most_gathered = omega (arith, s.few_gathered, ap length g.kept, ap length g.whole, length-append gathered1 [], length-append g.front g.rest) in
          record { lines = s.lines; written = s.written ++ g.front; last = s.last; told = s.told; settled = s.settled; few = s.few; few_gathered = kept; appended = sent.0; transcript = sent.1 }

      pub flush_failed : {T E : Type 0} (reader : LinesView) (e : E) → Sofar Step first budget left0 left held0 held1 reader gathered1 → Gathers {T = T} {E = E} held1 held2 gathered1 [] gathered2 (Err e) → HasAnswered Step first budget most_gathered left0 left held0 held2 WriteFailed
      flush_failed reader e s g =
          let all : s.lines ++ [] ≡ s.lines = append-nil s.lines in
          let told = subst (λ (z : List (Option (List ℕ))). HasTold left0 left budget reader z) (sym all) s.told in
          let t = subst (λ (z : List (Option (List ℕ))). IsTranscript Step first z (s.written ++ (gathered1 ++ [])) s.last) (sym all) (nothing_more s.last s.written s.lines s.transcript) in
          cut_short s.last s.last budget left0 left held0 held1 held2 reader s.lines [] s.written gathered1 [] gathered2 e told s.settled s.few s.few_gathered (omega arith) s.appended s.transcript (refl, refl) t g

      -- a line was told and its reply gathered
      pub sofar_sent : {T E : Type 0} (old new : LinesView) (left1 : Option (List ℕ)) (line : Option (List ℕ)) (r : T) (s : Sofar Step first budget left0 left1 held0 held1 old gathered1)
          → (next : S) → HasTold left0 left budget new (s.lines ++ line ∷ []) → (new.begun ≡ []) ⊎ (new.ahead ≡ []) → length new.ahead ≤ most_ahead → Sends {T = T} {E = E} (λ reply. Step s.last line reply next) held1 held2 gathered1 gathered2 (Ok r) → Sofar Step first budget left0 left held0 held2 new gathered2
      sofar_sent old new left1 line r s next told settled few reply =
          let more = transcript_more first s.last next s.lines (s.written ++ gathered1) reply.reply line s.transcript reply.lawful in
          let t = subst (λ (z : List ℕ). IsTranscript Step first (s.lines ++ line ∷ []) z next) (append_assoc s.written gathered1 reply.reply) more in
          let sent = transcript_sent next (s.lines ++ line ∷ []) held0 held1 held2 s.written gathered1 reply.reply gathered2 r s.appended t reply.sent in
          record {
            lines = s.lines ++ line ∷ [];
            written = s.written ++ reply.sent.front;
            last = next;
            told = told;
            settled = settled;
            few = few;
            few_gathered = reply.few;
            appended = sent.0;
            transcript = sent.1;
          }

      pub send_failed : {T E : Type 0} (old new : LinesView) (left1 : Option (List ℕ)) (line : Option (List ℕ)) (e : E) (s : Sofar Step first budget left0 left1 held0 held1 old gathered1)
          → (next : S) → HasTold left0 left budget new (s.lines ++ line ∷ []) → (new.begun ≡ []) ⊎ (new.ahead ≡ []) → length new.ahead ≤ most_ahead → Sends {T = T} {E = E} (λ reply. Step s.last line reply next) held1 held2 gathered1 gathered2 (Err e) → HasAnswered Step first budget most_gathered left0 left held0 held2 WriteFailed
      send_failed old new left1 line e s next told settled few reply =
          let more = transcript_more first s.last next s.lines (s.written ++ gathered1) reply.reply line s.transcript reply.lawful in
          let t = subst (λ (z : List ℕ). IsTranscript Step first (s.lines ++ line ∷ []) z next) (append_assoc s.written gathered1 reply.reply) more in
          let one : IsTranscript Step s.last (line ∷ []) reply.reply next = (reply.reply, [], next, sym (append-nil reply.reply), reply.lawful, (refl, refl)) in
          cut_short s.last next budget left0 left held0 held1 held2 new s.lines (line ∷ []) s.written gathered1 reply.reply gathered2 e told settled few s.few_gathered (omega arith) s.appended s.transcript one t reply.sent

    -- no line was told
    pub sofar_same : (budget : ℕ) (left0 left1 left held0 held : Option (List ℕ)) (old new : LinesView) (gathered : List ℕ) (s : Sofar Step first budget left0 left1 held0 held old gathered) → HasTold left0 left budget new (s.lines ++ []) → (new.begun ≡ []) ⊎ (new.ahead ≡ []) → length new.ahead ≤ most_ahead → Sofar Step first budget left0 left held0 held new gathered
    sofar_same budget left0 left1 left held0 held old new gathered s told settled few = record {
      lines = s.lines;
      written = s.written;
      last = s.last;
      settled = settled;
      few = few;
      few_gathered = s.few_gathered;
      told = subst (λ (z : List (Option (List ℕ))). HasTold left0 left budget new z) (append-nil s.lines) told;
      appended = s.appended;
      transcript = s.transcript;
    }

    -- at the end everything is written
    written_all : (last : S) (lines : List (Option (List ℕ))) (written : List ℕ) (gathered : List ℕ) → gathered ≡ [] → IsTranscript Step first lines (written ++ gathered) last → IsTranscript Step first lines written last
    written_all last lines written gathered empty t = subst (λ (z : List ℕ). IsTranscript Step first lines z last) (ap (λ (z : List ℕ). written ++ z) empty ∙ append-nil written) t

    pub answered_to_end : (budget : ℕ) (left0 left held0 held : Option (List ℕ)) (reader : LinesView) (gathered : List ℕ) → gathered ≡ [] → Sofar Step first budget left0 left held0 held reader gathered → reader.ended ≡ true → HasAnswered Step first budget most_gathered left0 left held0 held Finished
    answered_to_end budget left0 left held0 held reader gathered empty s ended =
        let all = told_all left0 left budget reader s.lines s.told ended in
        record {
          taken = s.told.read.taken;
          written = s.written;
          last = s.last;
          consumed = s.told.read.consumed;
          appended = s.appended;
          output = (all.1, subst (λ (z : List (Option (List ℕ))). IsTranscript Step first z s.written s.last) (sym all.0) (written_all s.last s.lines s.written gathered empty s.transcript));
          spends = λ (is : Finished ≡ Spent). cc;
        }

    pub answered_so_far : (budget : ℕ) (left0 left held0 held : Option (List ℕ)) (reader : LinesView) (gathered : List ℕ) → gathered ≡ [] → Sofar Step first budget left0 left held0 held reader gathered → reader.ended ≡ false → reader.ahead ≡ [] → HasAnswered Step first budget most_gathered left0 left held0 held ReadFailed
    answered_so_far budget left0 left held0 held reader gathered empty s ended ahead =
        let all = told_so_far left0 left budget reader s.lines s.told ended ahead in
        record {
          taken = s.told.read.taken;
          written = s.written;
          last = s.last;
          consumed = s.told.read.consumed;
          appended = s.appended;
          output = subst (λ (z : List (Option (List ℕ))). IsTranscript Step first z s.written s.last) (sym all) (written_all s.last s.lines s.written gathered empty s.transcript);
          spends = λ (is : ReadFailed ≡ Spent). cc;
        }

    pub answered_within_budget : (budget : ℕ) (left0 left held0 held : Option (List ℕ)) (reader : LinesView) (gathered : List ℕ) → gathered ≡ [] → Sofar Step first budget left0 left held0 held reader gathered → reader.ended ≡ false → reader.ahead ≡ [] → reader.budget ≡ 0 → HasAnswered Step first budget most_gathered left0 left held0 held Spent
    answered_within_budget budget left0 left held0 held reader gathered empty s ended ahead spent =
        let all = told_so_far left0 left budget reader s.lines s.told ended ahead in
        record {
          taken = s.told.read.taken;
          written = s.written;
          last = s.last;
          consumed = s.told.read.consumed;
          appended = s.appended;
          output = subst (λ (z : List (Option (List ℕ))). IsTranscript Step first z s.written s.last) (sym all) (written_all s.last s.lines s.written gathered empty s.transcript);
          spends = λ _. omega (arith, s.told.read.spent, spent);
        }

    -- a line's turn, by whether its reply was gathered
    pub turn_sent : {T E : Type 0} (budget : ℕ) (left0 left1 left held0 held1 held2 : Option (List ℕ)) (gathered1 gathered2 : List ℕ) (old new : LinesView) (line : Option (List ℕ)) (r : Result T E) (o : Option Ending)
        → o ≡ (if is_ok r then None else Some WriteFailed) → (s : Sofar Step first budget left0 left1 held0 held1 old gathered1) → (next : S) → HasTold left0 left budget new (s.lines ++ line ∷ []) → (new.begun ≡ []) ⊎ (new.ahead ≡ []) → length new.ahead ≤ most_ahead → Sends (λ reply. Step s.last line reply next) held1 held2 gathered1 gathered2 r
        → Turns Step first budget left0 left held0 held2 new gathered2 o
    turn_sent budget left0 left1 left held0 held1 held2 gathered1 gathered2 old new line (Ok r) o is s next told settled few sent =
        subst (λ (o : Option Ending). Turns Step first budget left0 left held0 held2 new gathered2 o) (sym is) (sofar_sent budget left0 left held0 held1 held2 gathered1 gathered2 old new left1 line r s next told settled few sent)
    turn_sent budget left0 left1 left held0 held1 held2 gathered1 gathered2 old new line (Err e) o is s next told settled few sent =
        subst (λ (o : Option Ending). Turns Step first budget left0 left held0 held2 new gathered2 o) (sym is) (send_failed budget left0 left held0 held1 held2 gathered1 gathered2 old new left1 line e s next told settled few sent)

    -- the end of it all, by how it ended and whether the last replies were written
    pub finishes : (budget : ℕ) (left0 left held0 held : Option (List ℕ)) (reader : LinesView) (gathered : List ℕ) (ending : Ending) → gathered ≡ [] → Turns Step first budget left0 left held0 held reader gathered (Some ending) → HasAnswered Step first budget most_gathered left0 left held0 held ending
    finishes budget left0 left held0 held reader gathered Finished empty t = answered_to_end budget left0 left held0 held reader gathered empty t.0 t.1
    finishes budget left0 left held0 held reader gathered WriteFailed empty t = t
    finishes budget left0 left held0 held reader gathered ReadFailed empty t = answered_so_far budget left0 left held0 held reader gathered empty t.0 t.1 t.2
    finishes budget left0 left held0 held reader gathered Spent empty t = answered_within_budget budget left0 left held0 held reader gathered empty t.0 t.1 t.2 t.3

    -- the last replies were written
    pub turn_flushed : {T E : Type 0} (budget : ℕ) (left0 left held0 held1 held2 : Option (List ℕ)) (reader : LinesView) (gathered1 gathered2 : List ℕ) (ending : Ending) (r : T) → ending ≢ WriteFailed
        → Turns Step first budget left0 left held0 held1 reader gathered1 (Some ending) → Gathers {T = T} {E = E} held1 held2 gathered1 [] gathered2 (Ok r) → Turns Step first budget left0 left held0 held2 reader gathered2 (Some ending)
    turn_flushed budget left0 left held0 held1 held2 reader gathered1 gathered2 Finished r other t g = (sofar_flushed budget left0 left held0 held1 held2 gathered1 gathered2 reader r t.0 g, t.1)
    turn_flushed budget left0 left held0 held1 held2 reader gathered1 gathered2 WriteFailed r other t g = absurd (other refl)
    turn_flushed budget left0 left held0 held1 held2 reader gathered1 gathered2 ReadFailed r other t g = (sofar_flushed budget left0 left held0 held1 held2 gathered1 gathered2 reader r t.0 g, t.1, t.2)
    turn_flushed budget left0 left held0 held1 held2 reader gathered1 gathered2 Spent r other t g = (sofar_flushed budget left0 left held0 held1 held2 gathered1 gathered2 reader r t.0 g, t.1, t.2, t.3)

    pub turn_flush_failed : {T E : Type 0} (budget : ℕ) (left0 left held0 held1 held2 : Option (List ℕ)) (reader : LinesView) (gathered1 gathered2 : List ℕ) (ending : Ending) (e : E) → ending ≢ WriteFailed
        → Turns Step first budget left0 left held0 held1 reader gathered1 (Some ending) → Gathers {T = T} {E = E} held1 held2 gathered1 [] gathered2 (Err e) → HasAnswered Step first budget most_gathered left0 left held0 held2 WriteFailed
    turn_flush_failed budget left0 left held0 held1 held2 reader gathered1 gathered2 Finished e other t g = flush_failed budget left0 left held0 held1 held2 gathered1 gathered2 reader e t.0 g
    turn_flush_failed budget left0 left held0 held1 held2 reader gathered1 gathered2 WriteFailed e other t g = absurd (other refl)
    turn_flush_failed budget left0 left held0 held1 held2 reader gathered1 gathered2 ReadFailed e other t g = flush_failed budget left0 left held0 held1 held2 gathered1 gathered2 reader e t.0 g
    turn_flush_failed budget left0 left held0 held1 held2 reader gathered1 gathered2 Spent e other t g = flush_failed budget left0 left held0 held1 held2 gathered1 gathered2 reader e t.0 g

    module _ (budget : ℕ) (left0 left held0 held1 held2 : Option (List ℕ)) (reader : LinesView) (gathered1 gathered2 : List ℕ) (ending : Ending) where
      written_so : (result : Ending) → ending ≢ WriteFailed → Turns Step first budget left0 left held0 held1 reader gathered1 (Some ending) → (result ≡ ending) × (gathered2 ≡ []) → Gathers {T = Unit {0}} {E = Failed} held1 held2 gathered1 [] gathered2 (Ok tt) → HasAnswered Step first budget most_gathered left0 left held0 held2 result
      written_so result other t same g =
          subst (λ (e : Ending). HasAnswered Step first budget most_gathered left0 left held0 held2 e) (sym same.0)
          (finishes budget left0 left held0 held2 reader gathered2 ending same.1 (turn_flushed budget left0 left held0 held1 held2 reader gathered1 gathered2 ending tt other t g))

      -- what `finish` leaves of an ending that was no failed write
      finished_other : (result : Ending) → ending ≢ WriteFailed → ((result ≡ WriteFailed → ⊥) → (result ≡ ending) × (gathered2 ≡ [])) → Gathers held1 held2 gathered1 [] gathered2 (flushed result) → Turns Step first budget left0 left held0 held1 reader gathered1 (Some ending) → HasAnswered Step first budget most_gathered left0 left held0 held2 result
      finished_other Finished other written g t = written_so Finished other t (written (λ (is : Finished ≡ WriteFailed). cc)) g
      finished_other WriteFailed other written g t = turn_flush_failed budget left0 left held0 held1 held2 reader gathered1 gathered2 ending (record {}) other t g
      finished_other ReadFailed other written g t = written_so ReadFailed other t (written (λ (is : ReadFailed ≡ WriteFailed). cc)) g
      finished_other Spent other written g t = written_so Spent other t (written (λ (is : Spent ≡ WriteFailed). cc)) g

    pub finished : (budget : ℕ) (left0 left held0 held1 held2 : Option (List ℕ)) (reader : LinesView) (gathered1 gathered2 : List ℕ) (ending result : Ending)
        → (ending ≡ WriteFailed → (result ≡ WriteFailed) × (held2 ≡ held1)) → ((result ≡ WriteFailed → ⊥) → (result ≡ ending) × (gathered2 ≡ []))
        → ((ending ≡ WriteFailed → ⊥) → Gathers held1 held2 gathered1 [] gathered2 (flushed result)) → Turns Step first budget left0 left held0 held1 reader gathered1 (Some ending) → HasAnswered Step first budget most_gathered left0 left held0 held2 result
    finished budget left0 left held0 held1 held2 reader gathered1 gathered2 Finished result failed written bytes t =
        let other : Finished ≢ WriteFailed = λ is. cc in finished_other budget left0 left held0 held1 held2 reader gathered1 gathered2 Finished result other written (bytes other) t
    finished budget left0 left held0 held1 held2 reader gathered1 gathered2 WriteFailed result failed written bytes t =
        let same = failed refl in
        subst (λ (e : Ending). HasAnswered Step first budget most_gathered left0 left held0 held2 e) (sym same.0) (subst (λ (h : Option (List ℕ)). HasAnswered Step first budget most_gathered left0 left held0 h WriteFailed) (sym same.1) t)
    finished budget left0 left held0 held1 held2 reader gathered1 gathered2 ReadFailed result failed written bytes t =
        let other : ReadFailed ≢ WriteFailed = λ is. cc in finished_other budget left0 left held0 held1 held2 reader gathered1 gathered2 ReadFailed result other written (bytes other) t
    finished budget left0 left held0 held1 held2 reader gathered1 gathered2 Spent result failed written bytes t =
        let other : Spent ≢ WriteFailed = λ is. cc in finished_other budget left0 left held0 held1 held2 reader gathered1 gathered2 Spent result other written (bytes other) t
