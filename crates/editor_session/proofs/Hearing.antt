-- How what was heard of an input grows, event by event.
use Rattle.std.proofs.Common.{◌≡◌, ℕ, zero, suc, Global, ◌+◌, ◌-◌, ◌<◌, ◌≤◌, Bool, true, false, List, [], ◌∷◌, ◌++◌, length, take, map, Option, None, Some, Result, Ok, Err, inl, inr, refl, sym, ap, subst, ◌∙◌, append_assoc, append-nil, arith, length-append, length-take, if◌then◌else◌}
use Rattle.std.specs.declared.vec.Vec.{Vec}
use Rattle.std.proofs.lemmas.List.Concat.{flat_map-append}
use Rattle.fsm_io.specs.Buffers.{most_ahead}
use Rattle.fsm_io.specs.Lines.{raw_lines, told, most_line}
use Rattle.fsm_io.specs.Reading.{LinesView, NextEvent, HasRead, IsDivided, IsLineEvent, at_start, size_of, told_by}
use Rattle.fsm_io.specs.Taking.{TakesLine, filled, taken_as, taken_of}
use Rattle.fsm_io.specs.declared.lines.LineEvent.{LineEvent}
use Rattle.fsm_io.specs.declared.lines.LineEvent.TheVariants.{Line, Long, End, Failed, Over}
use Rattle.fsm_io.proofs.Known.{consumes_more}
use Rattle.fsm_io.proofs.Cuts.{within-nil, raw_lines-newline, raw_lines-end, told-cases, told-nil}
use Rattle.fsm_io.proofs.Streams.{read_more, read_start}
use Rattle.reply_meaning.specs.Replies.{line_of}
use Rattle.editor_meaning.specs.Editing.{content_of}
use Rattle.reply_meaning.specs.declared.ending.Ending.TheVariants.{ReadFailed, Spent}
use Rattle.editor_session.specs.Reading.{HasHeard, HasStopped, HasTaken, HasTakenOne, IsSettled}
use Rattle.editor_session.specs.declared.payload.Payload.{Payload}
use Rattle.editor_session.specs.declared.payload.Payload.TheVariants as payloads

-- nothing was read
pub heard_start : (left : Option (List ℕ)) (budget : ℕ) (reader : LinesView) → reader ≡ at_start budget → HasHeard left left budget reader []
heard_start left budget reader is = record {
  read = read_start left budget reader is;
  settled = record { whole = ap (λ (r : LinesView). r.begun) is; few = omega (arith, ap (λ (r : LinesView). length r.ahead) is) };
}

-- the same lines, however they are grouped
pub read_as : (left0 left : Option (List ℕ)) (budget : ℕ) (reader : LinesView) (a b : List (List ℕ)) → a ≡ b → HasRead left0 left budget reader a → HasRead left0 left budget reader b
read_as left0 left budget reader a b same read = subst (λ (l : List (List ℕ)). HasRead left0 left budget reader l) same read

-- nothing of a further line was read
pub none_begun : (left0 left : Option (List ℕ)) (budget : ℕ) (reader : LinesView) (lines : List (List ℕ)) → (heard : HasHeard left0 left budget reader lines) → heard.read.begun ≡ []
none_begun left0 left budget reader lines heard = told-nil reader.begun heard.read.begun heard.read.kept heard.settled.whole

-- ---- a line more

module _ (left0 left1 left : Option (List ℕ)) (budget : ℕ) (old new : LinesView) (event : LineEvent) (lines : List (List ℕ)) (heard : HasHeard left0 left1 budget old lines) (next : NextEvent left1 left old new event) where
  before : old.ended ≡ false → (ended : Bool) (more : List ℕ) → raw_lines ended (heard.read.taken ++ (next.taken ++ more)) ≡ lines ++ raw_lines ended ((old.ahead ++ next.taken) ++ more)
  before going ended more =
      heard.read.goes_on going ended (next.taken ++ more) ∙ ap (λ (l : List ℕ). lines ++ raw_lines ended (l ++ old.ahead ++ (next.taken ++ more))) (none_begun left0 left1 budget old lines heard)
      ∙ ap (λ (l : List ℕ). lines ++ raw_lines ended l) (sym (append_assoc old.ahead next.taken more))

  -- a newline ended it
  pub heard_newline : old.ended ≡ false → new.ended ≡ false → old.ahead ++ next.taken ≡ next.piece ++ 10 ∷ new.ahead → new.begun ≡ [] → HasRead left0 left budget new (lines ++ next.piece ∷ [])
  heard_newline going0 going divided none = record {
    taken = heard.read.taken ++ next.taken;
    begun = [];
    consumed = consumes_more left0 left1 left heard.read.taken next.taken heard.read.consumed next.consumed;
    spent = omega (arith, heard.read.spent, next.spent, length-append heard.read.taken next.taken);
    goes_on = λ _ ended more.
        ap (raw_lines ended) (append_assoc heard.read.taken next.taken more) ∙ before going0 ended more
        ∙ ap (λ (l : List ℕ). lines ++ raw_lines ended (l ++ more)) divided
        ∙ ap (λ (l : List ℕ). lines ++ raw_lines ended l) (append_assoc next.piece (10 ∷ new.ahead) more)
        ∙ ap (λ (l : List (List ℕ)). lines ++ l) (raw_lines-newline ended next.piece (new.ahead ++ more) next.within)
        ∙ sym (append_assoc lines (next.piece ∷ []) (raw_lines ended (new.ahead ++ more)));
    within = within-nil;
    kept = ap told none;
    ends = λ is. cc;
  }

  -- the end of the input did
  pub heard_end : old.ended ≡ false → new.ended ≡ true → old.ahead ++ next.taken ≡ next.piece → new.ahead ≡ [] → new.begun ≡ [] → 0 < length (old.begun ++ next.piece) → HasRead left0 left budget new (lines ++ next.piece ∷ [])
  heard_end going0 closed divided none_ahead none some = record {
    taken = heard.read.taken ++ next.taken;
    begun = [];
    consumed = consumes_more left0 left1 left heard.read.taken next.taken heard.read.consumed next.consumed;
    spent = omega (arith, heard.read.spent, next.spent, length-append heard.read.taken next.taken);
    goes_on = λ is. cc;
    within = within-nil;
    kept = ap told none;
    ends = λ _.
        let some2 : 0 < length next.piece = omega (arith, length-append old.begun next.piece, ap length heard.settled.whole) in (
          ap (λ (l : List ℕ). raw_lines true (heard.read.taken ++ l)) (sym (append-nil next.taken)) ∙ before going0 true [] ∙ ap (λ (l : List ℕ). lines ++ raw_lines true (l ++ [])) divided
              ∙ ap (λ (l : List ℕ). lines ++ raw_lines true l) (append-nil next.piece) ∙ ap (λ (l : List (List ℕ)). lines ++ l) (raw_lines-end next.piece some2 next.within),
          refl,
          none_ahead,
          (next.at_end going0 closed).0,
        );
  }

-- events that tell lines come only before the end
pub going_before : (left0 left : Option (List ℕ)) (old new : LinesView) (event : LineEvent) → NextEvent left0 left old new event → IsLineEvent event → old.ended ≡ false
going_before left0 left old new event next tells = at old.ended refl where
  at : (ended : Bool) → old.ended ≡ ended → ended ≡ false
  at false is = refl
  at true is = absurd (subst IsLineEvent ((next.stays is).0) tells)

module _ (left0 left1 left : Option (List ℕ)) (budget : ℕ) (old new : LinesView) (lines : List (List ℕ)) (heard : HasHeard left0 left1 budget old lines) where
  line_at : (next : NextEvent left1 left old new Line) → (ended : Bool) → new.ended ≡ ended → HasRead left0 left budget new (lines ++ next.piece ∷ [])
  line_at next false is =
      heard_newline left0 left1 left budget old new Line lines heard next (going_before left1 left old new Line next tt) is (subst (λ (b : Bool). IsDivided Line b (old.ahead ++ next.taken) next.piece new.ahead) is next.divided) next.tells.1
  line_at next true is =
      let divided = subst (λ (b : Bool). IsDivided Line b (old.ahead ++ next.taken) next.piece new.ahead) is next.divided in
      heard_end left0 left1 left budget old new Line lines heard next (going_before left1 left old new Line next tt) is divided.0 divided.1 next.tells.1 (next.stopped is)

  long_at : (next : NextEvent left1 left old new Long) → (ended : Bool) → new.ended ≡ ended → HasRead left0 left budget new (lines ++ next.piece ∷ [])
  long_at next false is =
      heard_newline left0 left1 left budget old new Long lines heard next (going_before left1 left old new Long next tt) is (subst (λ (b : Bool). IsDivided Long b (old.ahead ++ next.taken) next.piece new.ahead) is next.divided) next.tells.1
  long_at next true is =
      let divided = subst (λ (b : Bool). IsDivided Long b (old.ahead ++ next.taken) next.piece new.ahead) is next.divided in
      heard_end left0 left1 left budget old new Long lines heard next (going_before left1 left old new Long next tt) is divided.0 divided.1 next.tells.1 (next.stopped is)

  -- a line was heard
  pub heard_line : (event : LineEvent) (next : NextEvent left1 left old new event) → IsLineEvent event → length new.ahead ≤ most_ahead → HasHeard left0 left budget new (lines ++ next.piece ∷ [])
  heard_line Line next tells few = record { read = line_at next new.ended refl; settled = record { whole = next.tells.1; few = few } }
  heard_line Long next tells few = record { read = long_at next new.ended refl; settled = record { whole = next.tells.1; few = few } }
  heard_line End next tells few = absurd tells
  heard_line Failed next tells few = absurd tells
  heard_line Over next tells few = absurd tells

  -- none was
  no_lines : (raw : List (List ℕ)) → map told raw ≡ [] → raw ≡ []
  no_lines [] e = refl
  no_lines (x ∷ raw) e = cc

  pub heard_none : (event : LineEvent) → told_by event new.text ≡ [] → NextEvent left1 left old new event → HasRead left0 left budget new lines
  heard_none event none next =
      let more = read_more left0 left1 left budget old new event lines heard.read next in
      read_as left0 left budget new (lines ++ more.raw) lines (ap (λ (l : List (List ℕ)). lines ++ l) (no_lines more.raw (more.told ∙ none)) ∙ append-nil lines) more.read

-- a line that is told by itself is its text
pub text_is : (line text : List ℕ) → told line ≡ Some text → line ≡ text
text_is line text is = elim (told-cases line) [
  | inl short ↦ let both : Some line ≡ Some text = sym short.1 ∙ is in cc
  | inr long ↦ let both : None ≡ Some text = sym long.1 ∙ is in cc
]

pub is_long : (line : List ℕ) → told line ≡ None → most_line < length line
is_long line is = elim (told-cases line) [
  | inl short ↦ let both : Some line ≡ None = sym short.1 ∙ is in cc
  | inr long ↦ long.0
]

-- the piece of a line is all of it, where nothing of it was read before
pub piece_told : (reader : LinesView) (piece : List ℕ) (t : Option (List ℕ)) → IsSettled reader → told (reader.begun ++ piece) ≡ t → told piece ≡ t
piece_told reader piece t settled is = ap (λ (l : List ℕ). told (l ++ piece)) (sym settled.whole) ∙ is

-- ---- less is left

-- the input's end is never undone
closed_stays : (a b : Bool) → (a ≡ true → b ≡ true) → (if b then 0 else 1) ≤ (if a then 0 else 1)
closed_stays true b keeps = omega (arith, ap {B = ℕ} (λ (x : Bool). if x then 0 else 1) (keeps refl))
closed_stays false true keeps = omega arith
closed_stays false false keeps = omega arith

no_more_left : (left0 left : Option (List ℕ)) (old new : LinesView) (event : LineEvent) → NextEvent left0 left old new event → new.ahead ≡ [] → size_of new ≤ size_of old
no_more_left left0 left old new event next none =
    omega (arith, next.spent, ap length none, closed_stays old.ended new.ended (λ is. ap (λ (r : LinesView). r.ended) ((next.stays is).1) ∙ is))

pub smaller_by : (left0 left : Option (List ℕ)) (old new : LinesView) (event : LineEvent) → NextEvent left0 left old new event → size_of new ≤ size_of old
smaller_by left0 left old new Line next = omega (arith, next.progress tt)
smaller_by left0 left old new Long next = omega (arith, next.progress tt)
smaller_by left0 left old new End next = no_more_left left0 left old new End next next.divided.1
smaller_by left0 left old new Failed next = no_more_left left0 left old new Failed next next.divided.1
smaller_by left0 left old new Over next = no_more_left left0 left old new Over next next.divided.1

-- ---- the bytes of lines

pub content_more : (lines : List (List ℕ)) (line : List ℕ) → content_of (lines ++ line ∷ []) ≡ content_of lines ++ line_of line
content_more lines line = flat_map-append line_of lines (line ∷ []) ∙ ap (λ (l : List ℕ). content_of lines ++ l) (append-nil (line_of line))

take_none : (n : ℕ) → take {A = ℕ} n [] ≡ []
take_none zero = refl
take_none (suc n) = refl

-- a front of both, the first as far as it goes
take_append : (n : ℕ) (xs ys : List ℕ) → take n (xs ++ ys) ≡ take n xs ++ take (n - length xs) ys
take_append n [] ys =
    let same : n ≡ n - 0 = omega arith in
    ap (λ (m : ℕ). take m ys) same ∙ ap (λ (l : List ℕ). l ++ take (n - 0) ys) (sym (take_none n))
take_append zero (x ∷ xs) ys =
    let none : 0 ≡ 0 - suc (length xs) = omega arith in
    ap (λ (m : ℕ). take m ys) none
take_append (suc n) (x ∷ xs) ys =
    let rest : n - length xs ≡ suc n - suc (length xs) = omega arith in
    ap (λ (l : List ℕ). x ∷ l) (take_append n xs ys) ∙ ap (λ (m : ℕ). x ∷ (take n xs ++ take m ys)) rest

pub kept_more : (most : ℕ) (lines : List (List ℕ)) (line bytes : List ℕ) → bytes ≡ take most (content_of lines) → filled most bytes (line_of line) ≡ take most (content_of (lines ++ line ∷ []))
kept_more most lines line bytes is =
    let content = content_of lines in
    let same : most - length (take most content) ≡ most - length content = omega (arith, length-take most content) in
    ap (λ (l : List ℕ). filled most l (line_of line)) is
    ∙ ap (λ (n : ℕ). take most content ++ take n (line_of line)) same
    ∙ sym (take_append most content (line_of line))
    ∙ ap (take most) (sym (content_more lines line))

-- ---- lines that follow a command

module _ (left0 left1 left : Option (List ℕ)) (budget : ℕ) (old new : LinesView) (lines : List (List ℕ)) (heard : HasHeard left0 left1 budget old lines) (few : length new.ahead ≤ most_ahead) where
  line_taken : (event : LineEvent) (piece : List ℕ) → IsLineEvent event → taken_of event piece ≡ line_of piece
  line_taken Line piece tells = refl
  line_taken Long piece tells = refl
  line_taken End piece tells = absurd tells
  line_taken Failed piece tells = absurd tells
  line_taken Over piece tells = absurd tells

  line_of_answer : (event : LineEvent) → Line ≡ taken_as event → IsLineEvent event
  line_of_answer Line is = tt
  line_of_answer Long is = tt
  line_of_answer End is = cc
  line_of_answer Failed is = cc
  line_of_answer Over is = cc

  never_long : {P : Type 0} (event : LineEvent) → Long ≡ taken_as event → P
  never_long Line is = cc
  never_long Long is = cc
  never_long End is = cc
  never_long Failed is = cc
  never_long Over is = cc

  -- a line was put behind the bytes
  pub took_line : {E : Type 0} (most : ℕ) (into0 into : List ℕ) (lacks : Bool) (answered : LineEvent) → TakesLine {E = E} left1 left old new most into0 into (Ok answered) → answered ≡ Line → HasTakenOne left0 left budget new lines most into0 into lacks lacks None
  took_line {E} most into0 into lacks answered t is =
      let tells = line_of_answer t.event (sym is ∙ t.answer) in
      let line : ◌≡◌ {A = Result LineEvent E} (Ok answered) (Ok Line) = ap {B = Result LineEvent E} (λ (e : LineEvent). Ok e) is in
      (t.next.piece, heard_line left0 left1 left budget old new lines heard t.event t.next tells few, λ free. (free, t.whole line ∙ ap (λ (l : List ℕ). filled most into0 l) (line_taken t.event t.next.piece tells)))

  pub took_no_long : {E : Type 0} {P : Type 0} (most : ℕ) (into0 into : List ℕ) (answered : LineEvent) → TakesLine {E = E} left1 left old new most into0 into (Ok answered) → answered ≡ Long → P
  took_no_long most into0 into answered t is = never_long t.event (sym is ∙ t.answer)

  -- there was no memory for a line
  pub took_unkept : {E : Type 0} (most : ℕ) (into0 into : List ℕ) (refused : E) (lacks : Bool) → TakesLine {E = E} left1 left old new most into0 into (Err refused) → HasTakenOne left0 left budget new lines most into0 into lacks true None
  took_unkept most into0 into refused lacks t = (t.next.piece, heard_line left0 left1 left budget old new lines heard t.event t.next t.answer few, λ (free : true ≡ false). cc)

  end_of : (event : LineEvent) → NextEvent left1 left old new event → End ≡ taken_as event → HasRead left0 left budget new lines × HasStopped new payloads.Cut
  end_of Line next is = cc
  end_of Long next is = cc
  end_of End next is = (heard_none left0 left1 left budget old new lines heard End refl next, (next.stopped, record { whole = next.tells.1; few = few }))
  end_of Failed next is = cc
  end_of Over next is = cc

  failed_of : (event : LineEvent) → NextEvent left1 left old new event → Failed ≡ taken_as event → HasRead left0 left budget new lines × HasStopped new (payloads.Stopped ReadFailed)
  failed_of Line next is = cc
  failed_of Long next is = cc
  failed_of End next is = cc
  failed_of Failed next is = (heard_none left0 left1 left budget old new lines heard Failed refl next, record { going = next.stopped.0; none = next.divided.1 })
  failed_of Over next is = cc

  over_of : (event : LineEvent) → NextEvent left1 left old new event → Over ≡ taken_as event → HasRead left0 left budget new lines × HasStopped new (payloads.Stopped Spent)
  over_of Line next is = cc
  over_of Long next is = cc
  over_of End next is = cc
  over_of Failed next is = cc
  over_of Over next is = (heard_none left0 left1 left budget old new lines heard Over refl next, (record { going = next.stopped.0; none = next.divided.1 }, next.stopped.1))

  -- the input stopped before a line
  pub took_end : {E : Type 0} (most : ℕ) (into0 into : List ℕ) (lacks0 lacks : Bool) (answered : LineEvent) → TakesLine {E = E} left1 left old new most into0 into (Ok answered) → answered ≡ End → HasTakenOne left0 left budget new lines most into0 into lacks0 lacks (Some payloads.Cut)
  took_end most into0 into lacks0 lacks answered t is = end_of t.event t.next (sym is ∙ t.answer)

  pub took_failed : {E : Type 0} (most : ℕ) (into0 into : List ℕ) (lacks0 lacks : Bool) (answered : LineEvent) → TakesLine {E = E} left1 left old new most into0 into (Ok answered) → answered ≡ Failed
      → HasTakenOne left0 left budget new lines most into0 into lacks0 lacks (Some (payloads.Stopped ReadFailed))
  took_failed most into0 into lacks0 lacks answered t is = failed_of t.event t.next (sym is ∙ t.answer)

  pub took_over : {E : Type 0} (most : ℕ) (into0 into : List ℕ) (lacks0 lacks : Bool) (answered : LineEvent) → TakesLine {E = E} left1 left old new most into0 into (Ok answered) → answered ≡ Over
      → HasTakenOne left0 left budget new lines most into0 into lacks0 lacks (Some (payloads.Stopped Spent))
  took_over most into0 into lacks0 lacks answered t is = over_of t.event t.next (sym is ∙ t.answer)

-- so many lines were taken, and their bytes kept unless memory lacked
pub record Taking (left0 left : Option (List ℕ)) (budget : ℕ) (reader : LinesView) (heard : List (List ℕ)) (count most : ℕ) (bytes : List ℕ) (lacks : Bool) : Type 0 where
  pub more : List (List ℕ)
  pub len : length more ≡ count
  pub all_heard : HasHeard left0 left budget reader (heard ++ more)
  pub kept : lacks ≡ false → bytes ≡ take most (content_of more)
  pub some : lacks ≡ true → 0 < count

pub none_taken : (left0 left : Option (List ℕ)) (budget : ℕ) (reader : LinesView) (heard : List (List ℕ)) (most : ℕ) (bytes : List ℕ) → bytes ≡ [] → HasHeard left0 left budget reader heard → Taking left0 left budget reader heard 0 most bytes false
none_taken left0 left budget reader heard most bytes empty h = record {
  more = [];
  len = refl;
  all_heard = subst (λ (l : List (List ℕ)). HasHeard left0 left budget reader l) (sym (append-nil heard)) h;
  kept = λ _. empty ∙ sym (take_none most);
  some = λ (is : false ≡ true). cc;
}

module _ (left0 left1 left : Option (List ℕ)) (budget : ℕ) (old new : LinesView) (heard : List (List ℕ)) (count most : ℕ) (bytes0 bytes : List ℕ) (lacks0 lacks : Bool) (t : Taking left0 left1 budget old heard count most bytes0 lacks0) where
  pub more_taken : HasTakenOne left0 left budget new (heard ++ t.more) most bytes0 bytes lacks0 lacks None → Taking left0 left budget new heard (count + 1) most bytes lacks
  more_taken (line, h, put) = record {
    more = t.more ++ line ∷ [];
    len = omega (arith, t.len, length-append t.more (line ∷ []));
    all_heard = subst (λ (l : List (List ℕ)). HasHeard left0 left budget new l) (append_assoc heard t.more (line ∷ [])) h;
    kept = λ free. let parts = put free in parts.1 ∙ kept_more most t.more line bytes0 (t.kept parts.0);
    some = λ _. omega arith;
  }

  pub stopped_taking : (wanted : ℕ) → count < wanted → (payload : Payload) → HasTakenOne left0 left budget new (heard ++ t.more) most bytes0 bytes lacks0 lacks (Some payload) → HasTaken left0 left budget new heard wanted most payload
  stopped_taking wanted less (payloads.Kept kept) (read, stopped) = absurd stopped
  stopped_taking wanted less payloads.Unkept (read, stopped) = absurd stopped
  stopped_taking wanted less payloads.Cut (read, stopped) = record { more = t.more; read = read; is = (omega (arith, t.len, less), stopped) }
  stopped_taking wanted less (payloads.Stopped ending) (read, stopped) = record { more = t.more; read = read; is = (omega (arith, t.len, less), stopped) }

module _ (left0 left : Option (List ℕ)) (budget : ℕ) (reader : LinesView) (heard : List (List ℕ)) (count wanted most : ℕ) (same : count ≡ wanted) where
  pub taken_unkept : (bytes : List ℕ) (lacks : Bool) → Taking left0 left budget reader heard count most bytes lacks → lacks ≡ true → HasTaken left0 left budget reader heard wanted most payloads.Unkept
  taken_unkept bytes lacks t is = record { more = t.more; read = t.all_heard.read; is = (t.len ∙ same, t.all_heard.settled, omega (arith, t.some is, same)) }

  pub taken_kept : (bytes : Vec ℕ Global) (lacks : Bool) → Taking left0 left budget reader heard count most bytes.items lacks → lacks ≡ false → HasTaken left0 left budget reader heard wanted most (payloads.Kept bytes)
  taken_kept bytes lacks t is = record { more = t.more; read = t.all_heard.read; is = (t.len ∙ same, t.all_heard.settled, t.kept is) }
