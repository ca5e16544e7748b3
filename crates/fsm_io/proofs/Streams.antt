-- Laws for loops over a source: what was told so far, and one event more.
use Rattle.std.proofs.Common.{◌≡◌, ℕ, ◌<◌, Bool, true, false, List, [], ◌∷◌, ◌++◌, length, map, Option, cond, ◌⊎◌, inl, inr, refl, sym, ap, subst, ◌∙◌, append_assoc, append-nil, arith, length-append}
use Rattle.std.proofs.lemmas.List.{map-append}
use Rattle.std.specs.Io.KnownBytes.{IsAtEnd}
use Rattle.fsm_io.specs.Lines.{raw_lines, told, lines_of}
use Rattle.fsm_io.specs.Reading.{LinesView, NextEvent, HasRead, HasTold, IsDivided, told_by, at_start}
use Rattle.fsm_io.specs.declared.lines.LineEvent.{LineEvent}
use Rattle.fsm_io.specs.declared.lines.LineEvent.TheVariants.{Line, Long, End, Failed, Over}
use Rattle.fsm_io.proofs.Known.{consumes_none, consumes_more}
use Rattle.fsm_io.proofs.Cuts.{within-nil, within-append, raw_lines-newline, raw_lines-end, raw_lines-within, told-append, told-some, told-nil}

-- ---- the start

pub read_start : (left : Option (List ℕ)) (budget : ℕ) (reader : LinesView) → reader ≡ at_start budget → HasRead left left budget reader []
read_start left budget reader is = subst (λ (r : LinesView). HasRead left left budget r []) (sym is) (record {
  taken = [];
  begun = [];
  consumed = consumes_none left;
  spent = omega arith;
  goes_on = λ _ ended more. refl;
  within = within-nil;
  kept = refl;
  ends = λ is. cc;
})

pub told_start : (left : Option (List ℕ)) (budget : ℕ) (reader : LinesView) → reader ≡ at_start budget → HasTold left left budget reader []
told_start left budget reader is = record { raw = []; read = read_start left budget reader is; told = refl }

-- ---- one event more

-- the lines that the event adds, as they are and as they are told
pub record Adds (left0 left : Option (List ℕ)) (budget0 : ℕ) (reader : LinesView) (event : LineEvent) (lines : List (List ℕ)) : Type 0 where
  pub raw : List (List ℕ)
  pub told : map told raw ≡ told_by event reader.text
  pub read : HasRead left0 left budget0 reader (lines ++ raw)

-- the bytes behind the lines so far, where a piece of the line was read
regroup : (begun ahead0 taken more piece rest : List ℕ) → ahead0 ++ taken ≡ piece ++ rest → (begun ++ ahead0) ++ (taken ++ more) ≡ (begun ++ piece) ++ (rest ++ more)
regroup begun ahead0 taken more piece rest e =
    append_assoc begun ahead0 (taken ++ more) ∙ ap (λ (l : List ℕ). begun ++ l) (sym (append_assoc ahead0 taken more) ∙ ap (λ (l : List ℕ). l ++ more) e ∙ append_assoc piece rest more)
    ∙ sym (append_assoc begun piece (rest ++ more))

-- a newline ended the line
adds_newline : (left0 left1 left : Option (List ℕ)) (budget0 : ℕ) (old new : LinesView) (event : LineEvent) (lines : List (List ℕ)) → old.ended ≡ false → new.ended ≡ false
    → (read : HasRead left0 left1 budget0 old lines) (next : NextEvent left1 left old new event) → old.ahead ++ next.taken ≡ next.piece ++ 10 ∷ new.ahead → new.begun ≡ []
    → HasRead left0 left budget0 new (lines ++ (read.begun ++ next.piece) ∷ [])
adds_newline left0 left1 left budget0 old new event lines going0 going read next divided none = record {
  taken = read.taken ++ next.taken;
  begun = [];
  consumed = consumes_more left0 left1 left read.taken next.taken read.consumed next.consumed;
  spent = omega (arith, read.spent, next.spent, length-append read.taken next.taken);
  goes_on = λ _ ended more.
      let line = read.begun ++ next.piece in
      ap (raw_lines ended) (append_assoc read.taken next.taken more) ∙ read.goes_on going0 ended (next.taken ++ more)
      ∙ ap (λ (l : List ℕ). lines ++ raw_lines ended l) (regroup read.begun old.ahead next.taken more next.piece (10 ∷ new.ahead) divided)
      ∙ ap (λ (l : List (List ℕ)). lines ++ l) (raw_lines-newline ended line (new.ahead ++ more) (within-append read.begun next.piece read.within next.within))
      ∙ sym (append_assoc lines (line ∷ []) (raw_lines ended (new.ahead ++ more)));
  within = within-nil;
  kept = ap told none;
  ends = λ is. cc;
}

-- the end came behind the line, which may be empty
adds_end : (left0 left1 left : Option (List ℕ)) (budget0 : ℕ) (old new : LinesView) (event : LineEvent) (lines raw : List (List ℕ)) → old.ended ≡ false → new.ended ≡ true
    → (read : HasRead left0 left1 budget0 old lines) (next : NextEvent left1 left old new event) → old.ahead ++ next.taken ≡ next.piece → new.ahead ≡ [] → new.begun ≡ [] → raw_lines true (read.begun ++ next.piece) ≡ raw
    → HasRead left0 left budget0 new (lines ++ raw)
adds_end left0 left1 left budget0 old new event lines raw going0 closed read next divided none_ahead none line = record {
  taken = read.taken ++ next.taken;
  begun = [];
  consumed = consumes_more left0 left1 left read.taken next.taken read.consumed next.consumed;
  spent = omega (arith, read.spent, next.spent, length-append read.taken next.taken);
  goes_on = λ is. cc;
  within = within-nil;
  kept = ap told none;
  ends = λ _. (
    read.goes_on going0 true next.taken ∙ ap (λ (l : List ℕ). lines ++ raw_lines true l) (append_assoc read.begun old.ahead next.taken ∙ ap (λ (l : List ℕ). read.begun ++ l) divided) ∙ ap (λ (l : List (List ℕ)). lines ++ l) line,
    refl,
    none_ahead,
    (next.at_end going0 closed).0,
  );
}

-- nothing settled the line
adds_none : (left0 left1 left : Option (List ℕ)) (budget0 : ℕ) (old new : LinesView) (event : LineEvent) (lines : List (List ℕ)) → old.ended ≡ false → new.ended ≡ false
    → (read : HasRead left0 left1 budget0 old lines) (next : NextEvent left1 left old new event) → old.ahead ++ next.taken ≡ next.piece → new.ahead ≡ [] → told new.begun ≡ told (old.begun ++ next.piece)
    → HasRead left0 left budget0 new (lines ++ [])
adds_none left0 left1 left budget0 old new event lines going0 going read next divided none_ahead kept = record {
  taken = read.taken ++ next.taken;
  begun = read.begun ++ next.piece;
  consumed = consumes_more left0 left1 left read.taken next.taken read.consumed next.consumed;
  spent = omega (arith, read.spent, next.spent, length-append read.taken next.taken);
  goes_on = λ _ ended more.
      ap (raw_lines ended) (append_assoc read.taken next.taken more) ∙ read.goes_on going0 ended (next.taken ++ more)
      ∙ ap (λ (l : List ℕ). lines ++ raw_lines ended l)
      (regroup read.begun old.ahead next.taken more next.piece new.ahead (divided ∙ sym (append-nil next.piece) ∙ ap (λ (l : List ℕ). next.piece ++ l) (sym none_ahead)) ∙ sym (append_assoc (read.begun ++ next.piece) new.ahead more))
      ∙ ap (λ (l : List (List ℕ)). l ++ raw_lines ended (read.begun ++ next.piece ++ new.ahead ++ more)) (sym (append-nil lines));
  within = within-append read.begun next.piece read.within next.within;
  kept = kept ∙ told-append old.begun read.begun next.piece read.kept;
  ends = λ is. cc;
}

-- an event of a line
adds_line : (left0 left1 left : Option (List ℕ)) (budget0 : ℕ) (old new : LinesView) (event : LineEvent) (lines : List (List ℕ)) (ended : Bool) → old.ended ≡ false → new.ended ≡ ended
    → (read : HasRead left0 left1 budget0 old lines) (next : NextEvent left1 left old new event)
    → cond ended ((old.ahead ++ next.taken ≡ next.piece) × (new.ahead ≡ []) × (0 < length (old.begun ++ next.piece))) (old.ahead ++ next.taken ≡ next.piece ++ 10 ∷ new.ahead) → new.begun ≡ []
    → map told ((old.begun ++ next.piece) ∷ []) ≡ told_by event new.text → Adds left0 left budget0 new event lines
adds_line left0 left1 left budget0 old new event lines false going0 is read next divided none tells = record {
  raw = (read.begun ++ next.piece) ∷ [];
  told = ap (λ (t : Option (List ℕ)). t ∷ []) (sym (told-append old.begun read.begun next.piece read.kept)) ∙ tells;
  read = adds_newline left0 left1 left budget0 old new event lines going0 is read next divided none;
}
adds_line left0 left1 left budget0 old new event lines true going0 is read next divided none tells =
    let same = told-append old.begun read.begun next.piece read.kept in
    let some = told-some (old.begun ++ next.piece) (read.begun ++ next.piece) same divided.2 in
    record {
      raw = (read.begun ++ next.piece) ∷ [];
      told = ap (λ (t : Option (List ℕ)). t ∷ []) (sym same) ∙ tells;
      read = adds_end left0 left1 left budget0 old new event lines ((read.begun ++ next.piece) ∷ []) going0 is read next divided.0 divided.1 none
          (raw_lines-end (read.begun ++ next.piece) some (within-append read.begun next.piece read.within next.within));
    }

adds_short : (left0 left1 left : Option (List ℕ)) (budget0 : ℕ) (old new : LinesView) (lines : List (List ℕ)) (ended : Bool) → old.ended ≡ false → new.ended ≡ ended
    → HasRead left0 left1 budget0 old lines → NextEvent left1 left old new Line → Adds left0 left budget0 new Line lines
adds_short left0 left1 left budget0 old new lines false going0 is read next =
    adds_line left0 left1 left budget0 old new Line lines false going0 is read next (subst (λ (b : Bool). IsDivided Line b (old.ahead ++ next.taken) next.piece new.ahead) is next.divided) next.tells.1
    (ap (λ (t : Option (List ℕ)). t ∷ []) next.tells.0)
adds_short left0 left1 left budget0 old new lines true going0 is read next =
    let divided = subst (λ (b : Bool). IsDivided Line b (old.ahead ++ next.taken) next.piece new.ahead) is next.divided in
    adds_line left0 left1 left budget0 old new Line lines true going0 is read next (divided.0, divided.1, next.stopped is) next.tells.1 (ap (λ (t : Option (List ℕ)). t ∷ []) next.tells.0)

adds_long : (left0 left1 left : Option (List ℕ)) (budget0 : ℕ) (old new : LinesView) (lines : List (List ℕ)) (ended : Bool) → old.ended ≡ false → new.ended ≡ ended
    → HasRead left0 left1 budget0 old lines → NextEvent left1 left old new Long → Adds left0 left budget0 new Long lines
adds_long left0 left1 left budget0 old new lines false going0 is read next =
    adds_line left0 left1 left budget0 old new Long lines false going0 is read next (subst (λ (b : Bool). IsDivided Long b (old.ahead ++ next.taken) next.piece new.ahead) is next.divided) next.tells.1
    (ap (λ (t : Option (List ℕ)). t ∷ []) next.tells.0)
adds_long left0 left1 left budget0 old new lines true going0 is read next =
    let divided = subst (λ (b : Bool). IsDivided Long b (old.ahead ++ next.taken) next.piece new.ahead) is next.divided in
    adds_line left0 left1 left budget0 old new Long lines true going0 is read next (divided.0, divided.1, next.stopped is) next.tells.1 (ap (λ (t : Option (List ℕ)). t ∷ []) next.tells.0)

append_nils : (a b : List ℕ) → a ++ b ≡ [] → (a ≡ []) × (b ≡ [])
append_nils [] b e = (refl, e)
append_nils (x ∷ a) b e = cc

adds_by : (left0 left1 left : Option (List ℕ)) (budget0 : ℕ) (old new : LinesView) (event : LineEvent) (lines : List (List ℕ)) → old.ended ≡ false
    → HasRead left0 left1 budget0 old lines → NextEvent left1 left old new event → Adds left0 left budget0 new event lines
adds_by left0 left1 left budget0 old new Line lines going0 read next = adds_short left0 left1 left budget0 old new lines new.ended going0 refl read next
adds_by left0 left1 left budget0 old new Long lines going0 read next = adds_long left0 left1 left budget0 old new lines new.ended going0 refl read next
adds_by left0 left1 left budget0 old new End lines going0 read next =
    let parts = append_nils old.begun next.piece next.tells.0 in
    let none : read.begun ++ next.piece ≡ [] = ap (λ (l : List ℕ). l ++ next.piece) (told-nil old.begun read.begun read.kept parts.0) ∙ parts.1 in
    record {
      raw = [];
      told = refl;
      read = adds_end left0 left1 left budget0 old new End lines [] going0 next.stopped read next next.divided.0 next.divided.1 next.tells.1 (ap (raw_lines true) none);
    }
adds_by left0 left1 left budget0 old new Failed lines going0 read next = record {
  raw = [];
  told = refl;
  read = adds_none left0 left1 left budget0 old new Failed lines going0 next.stopped.0 read next next.divided.0 next.divided.1 next.tells;
}
adds_by left0 left1 left budget0 old new Over lines going0 read next = record {
  raw = [];
  told = refl;
  read = adds_none left0 left1 left budget0 old new Over lines going0 next.stopped.0 read next next.divided.0 next.divided.1 next.tells;
}

adds_at : (left0 left1 left : Option (List ℕ)) (budget0 : ℕ) (old new : LinesView) (event : LineEvent) (lines : List (List ℕ)) (ended : Bool) → old.ended ≡ ended
    → HasRead left0 left1 budget0 old lines → NextEvent left1 left old new event → Adds left0 left budget0 new event lines
adds_at left0 left1 left budget0 old new event lines false is read next = adds_by left0 left1 left budget0 old new event lines is read next
adds_at left0 left1 left budget0 old new event lines true is read next =
    let stays = next.stays is in
    record {
      raw = [];
      told = ap (λ (e : LineEvent). told_by e new.text) (sym stays.0);
      read = subst (λ (r : LinesView). HasRead left0 left budget0 r (lines ++ [])) (sym stays.1)
          (subst (λ (l : Option (List ℕ)). HasRead left0 l budget0 old (lines ++ [])) (sym stays.2) (subst (λ (l : List (List ℕ)). HasRead left0 left1 budget0 old l) (sym (append-nil lines)) read));
    }

-- what was read so far, and the lines of the next event
pub read_more : (left0 left1 left : Option (List ℕ)) (budget0 : ℕ) (old new : LinesView) (event : LineEvent) (lines : List (List ℕ))
    → HasRead left0 left1 budget0 old lines → NextEvent left1 left old new event → Adds left0 left budget0 new event lines
read_more left0 left1 left budget0 old new event lines = adds_at left0 left1 left budget0 old new event lines old.ended refl

pub told_more : (left0 left1 left : Option (List ℕ)) (budget0 : ℕ) (old new : LinesView) (event : LineEvent) (lines : List (Option (List ℕ)))
    → HasTold left0 left1 budget0 old lines → NextEvent left1 left old new event → HasTold left0 left budget0 new (lines ++ told_by event new.text)
told_more left0 left1 left budget0 old new event lines before next =
    let added = read_more left0 left1 left budget0 old new event before.raw before.read next in
    record {
      raw = before.raw ++ added.raw;
      read = added.read;
      told = map-append told before.raw added.raw ∙ ap (λ (l : List (Option (List ℕ))). l ++ map told added.raw) before.told ∙ ap (λ (l : List (Option (List ℕ))). lines ++ l) added.told;
    }

-- ---- what was told in the end

no_more : (ended : Bool) (taken begun ahead : List ℕ) (raw : List (List ℕ)) → raw_lines ended (taken ++ []) ≡ raw ++ raw_lines ended (begun ++ ahead ++ []) → lines_of ended taken ≡ map told raw ++ lines_of ended (begun ++ ahead)
no_more ended taken begun ahead raw e =
    ap (λ (l : List ℕ). lines_of ended l) (sym (append-nil taken)) ∙ ap (map told) e ∙ map-append told raw (raw_lines ended (begun ++ ahead ++ []))
    ∙ ap (λ (l : List ℕ). map told raw ++ lines_of ended l) (append-nil (begun ++ ahead))

-- once the source has ended, all its lines were told
pub told_all : (left0 left : Option (List ℕ)) (budget0 : ℕ) (reader : LinesView) (lines : List (Option (List ℕ))) (before : HasTold left0 left budget0 reader lines) → reader.ended ≡ true
    → (lines_of true before.read.taken ≡ lines) × IsAtEnd left
told_all left0 left budget0 reader lines before is = let ends = before.read.ends is in (ap (map told) ends.0 ∙ before.told, ends.3)

-- where nothing is ahead, as after a failure and the spent budget, all lines were told that a newline ended
pub told_so_far : (left0 left : Option (List ℕ)) (budget0 : ℕ) (reader : LinesView) (lines : List (Option (List ℕ))) (before : HasTold left0 left budget0 reader lines) → reader.ended ≡ false → reader.ahead ≡ []
    → lines_of false before.read.taken ≡ lines
told_so_far left0 left budget0 reader lines before is none =
    let read = before.read in
    no_more false read.taken read.begun reader.ahead before.raw (read.goes_on is false [])
    ∙ ap (λ (l : List ℕ). map told before.raw ++ lines_of false (read.begun ++ l)) none
    ∙ ap (λ (l : List ℕ). map told before.raw ++ lines_of false l) (append-nil read.begun)
    ∙ ap (λ (l : List (List ℕ)). map told before.raw ++ map told l) (raw_lines-within read.begun read.within)
    ∙ append-nil (map told before.raw) ∙ before.told

-- after an event no line is begun, or nothing is ahead
pub settled_by : (left0 left : Option (List ℕ)) (old new : LinesView) (event : LineEvent) → NextEvent left0 left old new event → (new.begun ≡ []) ⊎ (new.ahead ≡ [])
settled_by left0 left old new Line next = inl next.tells.1
settled_by left0 left old new Long next = inl next.tells.1
settled_by left0 left old new End next = inl next.tells.1
settled_by left0 left old new Failed next = inr next.divided.1
settled_by left0 left old new Over next = inr next.divided.1

-- where no line is begun or nothing is ahead, the lines that weren't told yet are those ahead
pub told_behind : (left0 left : Option (List ℕ)) (budget0 : ℕ) (reader : LinesView) (lines : List (Option (List ℕ))) (before : HasTold left0 left budget0 reader lines) → (reader.begun ≡ []) ⊎ (reader.ahead ≡ [])
    → lines_of reader.ended before.read.taken ≡ lines ++ lines_of reader.ended reader.ahead
told_behind left0 left budget0 reader lines before settled = at reader.ended refl where
  read : HasRead left0 left budget0 reader before.raw
  read = before.read

  -- what was begun has no newline
  begun_alone : reader.ahead ≡ [] → lines_of false (read.begun ++ reader.ahead) ≡ lines_of false reader.ahead
  begun_alone none =
      ap (λ (l : List ℕ). lines_of false (read.begun ++ l)) none ∙ ap (λ (l : List ℕ). lines_of false l) (append-nil read.begun) ∙ ap (map told) (raw_lines-within read.begun read.within)
      ∙ ap (λ (l : List ℕ). lines_of false l) (sym none)

  ahead : lines_of false (read.begun ++ reader.ahead) ≡ lines_of false reader.ahead
  ahead = elim settled as (λ _. lines_of false (read.begun ++ reader.ahead) ≡ lines_of false reader.ahead) [
    | inl none ↦ ap (λ (l : List ℕ). lines_of false (l ++ reader.ahead)) (told-nil reader.begun read.begun read.kept none)
    | inr none ↦ begun_alone none
  ]

  at : (ended : Bool) → reader.ended ≡ ended → lines_of ended read.taken ≡ lines ++ lines_of ended reader.ahead
  at true is =
      let all = told_all left0 left budget0 reader lines before is in
      all.0 ∙ sym (append-nil lines) ∙ ap (λ (l : List ℕ). lines ++ lines_of true l) (sym ((read.ends is).2))
  at false is =
      no_more false read.taken read.begun reader.ahead before.raw (read.goes_on is false [])
      ∙ ap (λ (l : List (Option (List ℕ))). l ++ lines_of false (read.begun ++ reader.ahead)) before.told
      ∙ ap (λ (l : List (Option (List ℕ))). lines ++ l) ahead

-- what was told is a front of the lines of all bytes taken
pub told_front : (left0 left : Option (List ℕ)) (budget0 : ℕ) (reader : LinesView) (lines : List (Option (List ℕ))) (before : HasTold left0 left budget0 reader lines)
    → (rest : List (Option (List ℕ))) × (lines_of reader.ended before.read.taken ≡ lines ++ rest)
told_front left0 left budget0 reader lines before = at reader.ended refl where
  at : (ended : Bool) → reader.ended ≡ ended → (rest : List (Option (List ℕ))) × (lines_of ended before.read.taken ≡ lines ++ rest)
  at true is = ([], (told_all left0 left budget0 reader lines before is).0 ∙ sym (append-nil lines))
  at false is = (
    lines_of false (before.read.begun ++ reader.ahead),
    no_more false before.read.taken before.read.begun reader.ahead before.raw (before.read.goes_on is false []) ∙ ap (λ (l : List (Option (List ℕ))). l ++ lines_of false (before.read.begun ++ reader.ahead)) before.told,
  )
