-- How `gather` keeps its record from read to read, and what the next event is of it.
use Rattle.std.proofs.Common.{◌≡◌, ℕ, ◌+◌, ◌-◌, ◌<◌, ◌≤◌, min, Bool, true, false, List, [], ◌∷◌, ◌++◌, length, take, drop, nat_le, ◌==◌, Option, cond, refl, sym, ap, subst, ◌∙◌, append_assoc, append-nil, arith, length-append}
use Rattle.std.proofs.lemmas.Bool.Decides.{nat_tests}
use Rattle.std.proofs.lemmas.List.{take_all}
use Rattle.std.specs.Io.KnownBytes.{Consumes, IsAtEnd}
use Rattle.fsm_io.specs.Buffers.{BufferView}
use Rattle.fsm_io.specs.Gather.{Moves, Gathered, IsNewline, IsStep, is_settled, is_ended, is_told, event_of, most_kept}
use Rattle.fsm_io.specs.Lines.{told, IsWithinLine}
use Rattle.fsm_io.specs.Reading.{LinesView, NextEvent, IsLineEvent, Tells, IsDivided, HasStopped}
use Rattle.fsm_io.specs.declared.lines.LineEvent.{LineEvent}
use Rattle.fsm_io.specs.declared.lines.LineEvent.TheVariants.{Line, Long, End, Failed, Over}
use Rattle.fsm_io.specs.declared.lines.Step.{Step}
use Rattle.fsm_io.specs.declared.lines.Step.TheVariants as step
use Rattle.fsm_io.proofs.Known.{consumes_none, consumes_more}
use Rattle.fsm_io.proofs.Pieces.{append-take, take-take-append}
use Rattle.fsm_io.proofs.Cuts.{within-nil, within-append, told-kept, told-short, told-long, told-some, told-nil}

-- ---- a front of the held bytes goes to the line

unfoldable pub moves_newline : (held0 held : List ℕ) (line0 line : BufferView) (place count : ℕ) → IsNewline held0 place → held ≡ drop (place + 1) held0 → length line0.held ≤ line0.room
    → count ≡ min (line0.room - length line0.held) (length (take place held0)) → line ≡ record line0 { held = line0.held ++ take count (take place held0) } → Moves held0 held line0 line true
moves_newline held0 held line0 line place count newline left fits counts filled = record {
  piece = take place held0;
  within = newline.within;
  bytes = newline.divided ∙ ap (λ (l : List ℕ). take place held0 ++ 10 ∷ l) (sym left);
  none = λ is. cc;
  kept = ap (λ (b : BufferView). b.held) filled ∙ append-take line0.room count line0.held (take place held0) fits counts;
  room = ap (λ (b : BufferView). b.room) filled;
}

unfoldable pub moves_all : (held0 held : List ℕ) (line0 line : BufferView) (count : ℕ) → IsWithinLine held0 → held ≡ [] → length line0.held ≤ line0.room
    → count ≡ min (line0.room - length line0.held) (length held0) → line ≡ record line0 { held = line0.held ++ take count held0 } → Moves held0 held line0 line false
moves_all held0 held line0 line count within left fits counts filled = record {
  piece = held0;
  within = within;
  bytes = sym (append-nil held0) ∙ ap (λ (l : List ℕ). held0 ++ l) (sym left);
  none = λ _. left;
  kept = ap (λ (b : BufferView). b.held) filled ∙ append-take line0.room count line0.held held0 fits counts;
  room = ap (λ (b : BufferView). b.room) filled;
}

-- ---- from read to read

-- the bytes held at first and those taken went to the line, but for those held now
pub record Gathering (left0 left : Option (List ℕ)) (budget0 budget : ℕ) (line0 line : BufferView) (held0 held : List ℕ) : Type 0 where
  pub taken : List ℕ
  pub piece : List ℕ
  pub consumed : Consumes left0 left taken
  pub spent : budget + length taken ≡ budget0
  pub within : IsWithinLine piece
  pub bytes : held0 ++ taken ≡ piece ++ held
  pub kept : line.held ≡ take line0.room (line0.held ++ piece)
  pub room : line.room ≡ line0.room

unfoldable pub gathering_start : (left : Option (List ℕ)) (budget : ℕ) (line : BufferView) (held : List ℕ) → length line.held ≤ line.room → Gathering left left budget budget line line held held
gathering_start left budget line held fits = record {
  taken = [];
  piece = [];
  consumed = consumes_none left;
  spent = omega arith;
  within = within-nil;
  bytes = append-nil held;
  kept = sym (take_all line.room (line.held ++ []) (omega (arith, fits, length-append line.held [])) ∙ append-nil line.held);
  room = refl;
}

pub more_bytes : (held0 held1 held none taken piece moved : List ℕ) → held0 ++ taken ≡ piece ++ held1 → held1 ≡ moved ++ none → none ≡ [] → held0 ++ (taken ++ held) ≡ (piece ++ moved) ++ held
more_bytes held0 held1 held none taken piece moved before moves empty =
    let all : held1 ≡ moved = moves ∙ ap (λ (l : List ℕ). moved ++ l) empty ∙ append-nil moved in
    sym (append_assoc held0 taken held) ∙ ap (λ (l : List ℕ). l ++ held) (before ∙ ap (λ (l : List ℕ). piece ++ l) all)

pub more_kept : (room room1 : ℕ) (line0 line1 line piece moved : List ℕ) → room1 ≡ room → line1 ≡ take room (line0 ++ piece) → line ≡ take room1 (line1 ++ moved) → line ≡ take room (line0 ++ (piece ++ moved))
more_kept room room1 line0 line1 line piece moved same before moves =
    moves ∙ ap (λ (n : ℕ). take n (line1 ++ moved)) same ∙ ap (λ (l : List ℕ). take room (l ++ moved)) before ∙ take-take-append room (line0 ++ piece) moved ∙ ap (take room) (append_assoc line0 piece moved)

-- the held bytes went to the line, none of them a newline, and others were read
unfoldable pub gathering_more : (left0 left1 left : Option (List ℕ)) (budget0 budget1 budget : ℕ) (line0 line1 line : BufferView) (held0 held1 none held : List ℕ)
    → Gathering left0 left1 budget0 budget1 line0 line1 held0 held1 → Moves held1 none line1 line false → Consumes left1 left held → budget + length held ≡ budget1
    → Gathering left0 left budget0 budget line0 line held0 held
gathering_more left0 left1 left budget0 budget1 budget line0 line1 line held0 held1 none held before moves consumed spent = record {
  taken = before.taken ++ held;
  piece = before.piece ++ moves.piece;
  consumed = consumes_more left0 left1 left before.taken held before.consumed consumed;
  spent = omega (arith, length-append before.taken held, before.spent, spent);
  within = within-append before.piece moves.piece before.within moves.within;
  bytes = more_bytes held0 held1 held none before.taken before.piece moves.piece before.bytes moves.bytes (moves.none refl);
  kept = more_kept line0.room line1.room line0.held line1.held line.held before.piece moves.piece before.room before.kept moves.kept;
  room = moves.room ∙ before.room;
}

unfoldable pub gathering_kept : (left0 left1 left : Option (List ℕ)) (budget0 budget : ℕ) (line0 line : BufferView) (held0 held : List ℕ)
    → Gathering left0 left1 budget0 budget line0 line held0 held → Consumes left1 left [] → Gathering left0 left budget0 budget line0 line held0 held
gathering_kept left0 left1 left budget0 budget line0 line held0 held before kept = record {
  taken = before.taken;
  piece = before.piece;
  consumed = subst (λ (l : List ℕ). Consumes left0 left l) (append-nil before.taken) (consumes_more left0 left1 left before.taken [] before.consumed kept);
  spent = before.spent;
  within = before.within;
  bytes = before.bytes;
  kept = before.kept;
  room = before.room;
}

-- no bytes are held, whichever list that is
unfoldable pub moves_kept : (held0 none held : List ℕ) (line0 line : BufferView) → Moves held0 none line0 line false → held ≡ [] → Moves held0 held line0 line false
moves_kept held0 none held line0 line moves empty = record {
  piece = moves.piece;
  within = moves.within;
  bytes = moves.bytes ∙ ap (λ (l : List ℕ). moves.piece ++ l) (moves.none refl ∙ sym empty);
  none = λ _. empty;
  kept = moves.kept;
  room = moves.room;
}

-- and at last to the step that ends it
unfoldable pub gathered : (left0 left : Option (List ℕ)) (budget0 budget : ℕ) (line0 line1 line : BufferView) (held0 held1 held : List ℕ) (whole : Bool) (ended : Step)
    → Gathering left0 left budget0 budget line0 line1 held0 held1 → Moves held1 held line1 line whole → is_settled ended ≡ whole → IsStep ended left budget held
    → Gathered left0 left budget0 budget line0 line held0 held ended
gathered left0 left budget0 budget line0 line1 line held0 held1 held whole ended before moves settled is = record {
  taken = before.taken;
  piece = before.piece ++ moves.piece;
  consumed = before.consumed;
  spent = before.spent;
  within = within-append before.piece moves.piece before.within moves.within;
  bytes =
      before.bytes ∙ ap (λ (l : List ℕ). before.piece ++ l) (moves.bytes ∙ ap (λ (t : Bool). moves.piece ++ cond t (10 ∷ held) held) (sym settled))
      ∙ sym (append_assoc before.piece moves.piece (cond (is_settled ended) (10 ∷ held) held));
  kept = more_kept line0.room line1.room line0.held line1.held line.held before.piece moves.piece before.room before.kept moves.kept;
  room = moves.room ∙ before.room;
  step = is;
}

unfoldable pub gathered_settled : (left0 left : Option (List ℕ)) (budget0 budget : ℕ) (line0 line1 line : BufferView) (held0 held1 held : List ℕ)
    → Gathering left0 left budget0 budget line0 line1 held0 held1 → Moves held1 held line1 line true → Gathered left0 left budget0 budget line0 line held0 held step.Settled
gathered_settled left0 left budget0 budget line0 line1 line held0 held1 held before moves =
    gathered left0 left budget0 budget line0 line1 line held0 held1 held true step.Settled before moves refl tt

unfoldable pub gathered_over : (left0 left : Option (List ℕ)) (budget0 budget : ℕ) (line0 line1 line : BufferView) (held0 held1 held : List ℕ)
    → Gathering left0 left budget0 budget line0 line1 held0 held1 → Moves held1 held line1 line false → budget ≡ 0 → Gathered left0 left budget0 budget line0 line held0 held step.Over
gathered_over left0 left budget0 budget line0 line1 line held0 held1 held before moves spent =
    gathered left0 left budget0 budget line0 line1 line held0 held1 held false step.Over before moves refl (spent, moves.none refl)

unfoldable pub gathered_failed : (left0 left1 left : Option (List ℕ)) (budget0 budget : ℕ) (line0 line1 line : BufferView) (held0 held1 none held : List ℕ)
    → Gathering left0 left1 budget0 budget line0 line1 held0 held1 → Moves held1 none line1 line false → Consumes left1 left held → held ≡ [] → 0 < budget
    → Gathered left0 left budget0 budget line0 line held0 held step.Failed
gathered_failed left0 left1 left budget0 budget line0 line1 line held0 held1 none held before moves consumed empty some =
    gathered left0 left budget0 budget line0 line1 line held0 held1 held false step.Failed (gathering_kept left0 left1 left budget0 budget line0 line1 held0 held1 before (subst (λ (l : List ℕ). Consumes left1 left l) empty consumed))
    (moves_kept held1 none held line1 line moves empty) refl (some, empty)

unfoldable pub gathered_ended : (left0 left1 left : Option (List ℕ)) (budget0 budget : ℕ) (line0 line1 line : BufferView) (held0 held1 none held : List ℕ)
    → Gathering left0 left1 budget0 budget line0 line1 held0 held1 → Moves held1 none line1 line false → Consumes left1 left held → held ≡ [] → 0 < budget → IsAtEnd left
    → Gathered left0 left budget0 budget line0 line held0 held step.Ended
gathered_ended left0 left1 left budget0 budget line0 line1 line held0 held1 none held before moves consumed empty some end =
    gathered left0 left budget0 budget line0 line1 line held0 held1 held false step.Ended (gathering_kept left0 left1 left budget0 budget line0 line1 held0 held1 before (subst (λ (l : List ℕ). Consumes left1 left l) empty consumed))
    (moves_kept held1 none held line1 line moves empty) refl (end, some, empty)

-- ---- the event

without : (bytes piece ahead : List ℕ) → bytes ≡ piece ++ ahead → ahead ≡ [] → bytes ≡ piece
without bytes piece ahead e none = e ∙ ap (λ (l : List ℕ). piece ++ l) none ∙ append-nil piece

pub length-nil : (line : List ℕ) → length line ≡ 0 → line ≡ []
length-nil [] e = refl
length-nil (b ∷ line) e = absurd (omega (arith, e))

divided_newline : (event : LineEvent) (bytes piece ahead : List ℕ) → IsLineEvent event → bytes ≡ piece ++ 10 ∷ ahead → IsDivided event false bytes piece ahead
divided_newline Line bytes piece ahead is e = e
divided_newline Long bytes piece ahead is e = e
divided_newline End bytes piece ahead is e = absurd is
divided_newline Failed bytes piece ahead is e = absurd is
divided_newline Over bytes piece ahead is e = absurd is

divided_end : (event : LineEvent) (bytes piece ahead : List ℕ) → IsLineEvent event → bytes ≡ piece ++ ahead → ahead ≡ [] → IsDivided event true bytes piece ahead
divided_end Line bytes piece ahead is e none = (without bytes piece ahead e none, none)
divided_end Long bytes piece ahead is e none = (without bytes piece ahead e none, none)
divided_end End bytes piece ahead is e none = absurd is
divided_end Failed bytes piece ahead is e none = absurd is
divided_end Over bytes piece ahead is e none = absurd is

stopped_line : (event : LineEvent) (ended : Bool) (line : List ℕ) (budget : ℕ) → IsLineEvent event → (ended ≡ true → 0 < length line) → HasStopped event ended line budget
stopped_line Line ended line budget is some = some
stopped_line Long ended line budget is some = some
stopped_line End ended line budget is some = absurd is
stopped_line Failed ended line budget is some = absurd is
stopped_line Over ended line budget is some = absurd is

-- the event of a line by whether it is short
is_line : (t : Bool) → IsLineEvent (cond t Line Long)
is_line true = tt
is_line false = tt

line_tells : (t : Bool) (whole line : List ℕ) → told line ≡ told whole → nat_le (length line) 4096 ≡ t → Tells (cond t Line Long) whole line []
line_tells true whole line kept e = (sym kept ∙ told-short line (grind (arith, nat_tests)), refl)
line_tells false whole line kept e = (sym kept ∙ told-long line (grind (arith, nat_tests)), refl)

line_short : (t : Bool) (line : List ℕ) → nat_le (length line) 4096 ≡ t → cond t Line Long ≡ Line → length line ≤ 4096
line_short true line e is = grind (arith, nat_tests)
line_short false line e is = cc

-- the reader before a call that reads, and after it
abbrev pub reader_before : List ℕ → List ℕ → List ℕ → ℕ → LinesView
reader_before begun ahead text budget = record { begun = begun; ahead = ahead; text = text; budget = budget; ended = false }

abbrev pub reader_at : List ℕ → List ℕ → List ℕ → ℕ → Bool → LinesView
reader_at begun ahead text budget ended = record { begun = begun; ahead = ahead; text = text; budget = budget; ended = ended }

abbrev pub reader_after : Step → List ℕ → List ℕ → ℕ → LinesView
reader_after ended line ahead budget = record { begun = cond (is_told ended) [] line; ahead = ahead; text = line; budget = budget; ended = is_ended ended }

-- what is kept of the line tells the same as the line
kept_tells : (room : ℕ) (whole line : List ℕ) → room ≡ most_kept → line ≡ take room whole → told line ≡ told whole
kept_tells room whole line is kept = ap told (kept ∙ ap (λ (n : ℕ). take n whole) is) ∙ told-kept whole

settled_event : (left0 left : Option (List ℕ)) (budget0 budget : ℕ) (line0 line : BufferView) (held0 held text0 : List ℕ) (t : Bool) → Gathered left0 left budget0 budget line0 line held0 held step.Settled → line0.room ≡ most_kept
    → nat_le (length line.held) 4096 ≡ t → NextEvent left0 left (reader_before line0.held held0 text0 budget0) (reader_after step.Settled line.held held budget) (cond t Line Long)
settled_event left0 left budget0 budget line0 line held0 held text0 t g room e = record {
  taken = g.taken;
  piece = g.piece;
  consumed = g.consumed;
  spent = g.spent;
  within = g.within;
  divided = divided_newline (cond t Line Long) (held0 ++ g.taken) g.piece held (is_line t) g.bytes;
  tells = line_tells t (line0.held ++ g.piece) line.held (kept_tells line0.room (line0.held ++ g.piece) line.held room g.kept) e;
  stopped = stopped_line (cond t Line Long) false (line0.held ++ g.piece) budget (is_line t) (λ is. cc);
  at_end = λ _ is. cc;
  stays = λ is. cc;
  short = line_short t line.held e;
  progress = λ _. omega (arith, g.spent, ap length g.bytes, length-append held0 g.taken, length-append g.piece (10 ∷ held));
}

-- the end settles a line that isn't empty
ended_event : (left0 left : Option (List ℕ)) (budget0 budget : ℕ) (line0 line : BufferView) (held0 held text0 : List ℕ) (t : Bool) → Gathered left0 left budget0 budget line0 line held0 held step.Ended → line0.room ≡ most_kept
    → nat_le (length line.held) 4096 ≡ t → 0 < length line.held → NextEvent left0 left (reader_before line0.held held0 text0 budget0) (reader_after step.Ended line.held held budget) (cond t Line Long)
ended_event left0 left budget0 budget line0 line held0 held text0 t g room e some =
    let same = kept_tells line0.room (line0.held ++ g.piece) line.held room g.kept in
    record {
      taken = g.taken;
      piece = g.piece;
      consumed = g.consumed;
      spent = g.spent;
      within = g.within;
      divided = divided_end (cond t Line Long) (held0 ++ g.taken) g.piece held (is_line t) g.bytes g.step.2;
      tells = line_tells t (line0.held ++ g.piece) line.held same e;
      stopped = stopped_line (cond t Line Long) true (line0.held ++ g.piece) budget (is_line t) (λ _. told-some line.held (line0.held ++ g.piece) same some);
      at_end = λ _ _. (g.step.0, g.step.1);
      stays = λ is. cc;
      short = line_short t line.held e;
      progress = λ _. omega (arith, g.spent, ap length g.step.2);
    }

end_event : (left0 left : Option (List ℕ)) (budget0 budget : ℕ) (line0 line : BufferView) (held0 held text0 : List ℕ) → Gathered left0 left budget0 budget line0 line held0 held step.Ended → line0.room ≡ most_kept
    → line.held ≡ [] → NextEvent left0 left (reader_before line0.held held0 text0 budget0) (reader_after step.Ended line.held held budget) End
end_event left0 left budget0 budget line0 line held0 held text0 g room none = record {
  taken = g.taken;
  piece = g.piece;
  consumed = g.consumed;
  spent = g.spent;
  within = g.within;
  divided = (without (held0 ++ g.taken) g.piece held g.bytes g.step.2, g.step.2);
  tells = (told-nil line.held (line0.held ++ g.piece) (kept_tells line0.room (line0.held ++ g.piece) line.held room g.kept) none, refl);
  stopped = refl;
  at_end = λ _ _. (g.step.0, g.step.1);
  stays = λ is. cc;
  short = λ is. cc;
  progress = λ is. absurd is;
}

failed_event : (left0 left : Option (List ℕ)) (budget0 budget : ℕ) (line0 line : BufferView) (held0 held text0 : List ℕ) → Gathered left0 left budget0 budget line0 line held0 held step.Failed → line0.room ≡ most_kept
    → NextEvent left0 left (reader_before line0.held held0 text0 budget0) (reader_after step.Failed line.held held budget) Failed
failed_event left0 left budget0 budget line0 line held0 held text0 g room = record {
  taken = g.taken;
  piece = g.piece;
  consumed = g.consumed;
  spent = g.spent;
  within = g.within;
  divided = (without (held0 ++ g.taken) g.piece held g.bytes g.step.1, g.step.1);
  tells = kept_tells line0.room (line0.held ++ g.piece) line.held room g.kept;
  stopped = (refl, g.step.0);
  at_end = λ _ is. cc;
  stays = λ is. cc;
  short = λ is. cc;
  progress = λ is. absurd is;
}

over_event : (left0 left : Option (List ℕ)) (budget0 budget : ℕ) (line0 line : BufferView) (held0 held text0 : List ℕ) → Gathered left0 left budget0 budget line0 line held0 held step.Over → line0.room ≡ most_kept
    → NextEvent left0 left (reader_before line0.held held0 text0 budget0) (reader_after step.Over line.held held budget) Over
over_event left0 left budget0 budget line0 line held0 held text0 g room = record {
  taken = g.taken;
  piece = g.piece;
  consumed = g.consumed;
  spent = g.spent;
  within = g.within;
  divided = (without (held0 ++ g.taken) g.piece held g.bytes g.step.1, g.step.1);
  tells = kept_tells line0.room (line0.held ++ g.piece) line.held room g.kept;
  stopped = (refl, g.step.0);
  at_end = λ _ is. cc;
  stays = λ is. cc;
  short = λ is. cc;
  progress = λ is. absurd is;
}

-- the end, by whether a line is left
last_event : (left0 left : Option (List ℕ)) (budget0 budget : ℕ) (line0 line : BufferView) (held0 held text0 : List ℕ) (none : Bool) (g : Gathered left0 left budget0 budget line0 line held0 held step.Ended) → line0.room ≡ most_kept → (length line.held == 0) ≡ none
    → (next : NextEvent left0 left (reader_before line0.held held0 text0 budget0) (reader_after step.Ended line.held held budget) (cond none End (cond (nat_le (length line.held) 4096) Line Long))) × (next.piece ≡ g.piece)
unfolding end_event ended_event
last_event left0 left budget0 budget line0 line held0 held text0 true g room e =
    (end_event left0 left budget0 budget line0 line held0 held text0 g room (length-nil line.held (grind (arith, nat_tests))), refl)
last_event left0 left budget0 budget line0 line held0 held text0 false g room e =
    (ended_event left0 left budget0 budget line0 line held0 held text0 (nat_le (length line.held) 4096) g room refl (grind (arith, nat_tests)), refl)

-- the event, which read that piece of the line
pub next_event : (left0 left : Option (List ℕ)) (budget0 budget : ℕ) (line0 line : BufferView) (held0 held text0 : List ℕ) (ended : Step) (g : Gathered left0 left budget0 budget line0 line held0 held ended) → line0.room ≡ most_kept
    → (next : NextEvent left0 left (reader_before line0.held held0 text0 budget0) (reader_after ended line.held held budget) (event_of ended line.held)) × (next.piece ≡ g.piece)
unfolding settled_event failed_event over_event
next_event left0 left budget0 budget line0 line held0 held text0 step.Settled g room = (settled_event left0 left budget0 budget line0 line held0 held text0 (nat_le (length line.held) 4096) g room refl, refl)
next_event left0 left budget0 budget line0 line held0 held text0 step.Ended g room = last_event left0 left budget0 budget line0 line held0 held text0 (length line.held == 0) g room refl
next_event left0 left budget0 budget line0 line held0 held text0 step.Failed g room = (failed_event left0 left budget0 budget line0 line held0 held text0 g room, refl)
next_event left0 left budget0 budget line0 line held0 held text0 step.Over g room = (over_event left0 left budget0 budget line0 line held0 held text0 g room, refl)

-- the same of the readers as they are seen, where a line that was told is let go of first
pub advance_event : (left0 left : Option (List ℕ)) (budget0 budget : ℕ) (line1 line0 line : BufferView) (held0 held : List ℕ) (ended : Step) (told0 ended0 told1 ended1 : Bool) (old : LinesView) (event : LineEvent)
    → record { begun = cond told0 [] line1.held; ahead = held0; text = line1.held; budget = budget0; ended = ended0 } ≡ old → ended0 ≡ false → line0 ≡ record line1 { held = cond told0 [] line1.held } → line1.room ≡ most_kept
    → (g : Gathered left0 left budget0 budget line0 line held0 held ended) → told1 ≡ is_told ended → ended1 ≡ is_ended ended → event ≡ event_of ended line.held
    → (next : NextEvent left0 left old (record { begun = cond told1 [] line.held; ahead = held; text = line.held; budget = budget; ended = ended1 }) event) × (next.piece ≡ g.piece)
advance_event left0 left budget0 budget line1 line0 line held0 held ended told0 ended0 told1 ended1 old event seen going begun room g is_told1 is_ended1 is_event =
    let base = next_event left0 left budget0 budget line0 line held0 held line1.held ended g (ap (λ (b : BufferView). b.room) begun ∙ room) in
    let old_is : reader_before line0.held held0 line1.held budget0 ≡ old =
    ap (λ (l : List ℕ). reader_before l held0 line1.held budget0) (ap (λ (b : BufferView). b.held) begun)
    ∙ ap (λ (e : Bool). reader_at (cond told0 [] line1.held) held0 line1.held budget0 e) (sym going) ∙ seen in
    let new_is : reader_after ended line.held held budget ≡ reader_at (cond told1 [] line.held) held line.held budget ended1 =
    ap (λ (t : Bool). reader_at (cond t [] line.held) held line.held budget (is_ended ended)) (sym is_told1) ∙ ap (λ (e : Bool). reader_at (cond told1 [] line.held) held line.held budget e) (sym is_ended1) in
    subst (λ (e : LineEvent). (next : NextEvent left0 left old (reader_at (cond told1 [] line.held) held line.held budget ended1) e) × (next.piece ≡ g.piece)) (sym is_event)
    (subst (λ (r : LinesView). (next : NextEvent left0 left old r (event_of ended line.held)) × (next.piece ≡ g.piece)) new_is
    (subst (λ (r : LinesView). (next : NextEvent left0 left r (reader_after ended line.held held budget) (event_of ended line.held)) × (next.piece ≡ g.piece)) old_is base))

-- once it has ended, the end is told again
pub ended_again : (left : Option (List ℕ)) (begun held text : List ℕ) (budget : ℕ) (ended : Bool) (old : LinesView) → reader_at begun held text budget ended ≡ old → ended ≡ true → begun ≡ [] → held ≡ []
    → (next : NextEvent left left old old End) × (next.piece ≡ [])
ended_again left begun held text budget ended old seen is none none_held =
    let is_old : old.ended ≡ true = ap (λ (r : LinesView). r.ended) (sym seen) ∙ is in
    let no_ahead : old.ahead ≡ [] = ap (λ (r : LinesView). r.ahead) (sym seen) ∙ none_held in
    let no_begun : old.begun ≡ [] = ap (λ (r : LinesView). r.begun) (sym seen) ∙ none in (
      record {
        taken = [];
        piece = [];
        consumed = consumes_none left;
        spent = omega arith;
        within = within-nil;
        divided = (append-nil old.ahead ∙ no_ahead, no_ahead);
        tells = (append-nil old.begun ∙ no_begun, no_begun);
        stopped = is_old;
        at_end = λ going _. cc;
        stays = λ _. (refl, refl, refl);
        short = λ e. cc;
        progress = λ e. absurd e;
      },
      refl,
    )
