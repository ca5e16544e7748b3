-- A reply that is sent, and what came of its line.
use Rattle.std.proofs.Common.{◌≡◌, ◌++◌, ◌∷◌, [], ℕ, List, Option, None, Some, Result, Ok, Err, is_ok, if◌then◌else◌, sym, ap, subst, ◌∙◌, append-nil, length, length-append, arith}
use Rattle.std.specs.Io.KnownBytes.{Appends}
use Rattle.fsm_io.specs.Sinks.{WritesAll}
use Rattle.reply_meaning.specs.declared.ending.Ending.TheVariants.{WriteFailed}
use Rattle.publish_board.specs.Boards.{EndsWith, Seated}
use Rattle.lane_meaning.specs.Lanes.{HasNumber, IsMark}
use Rattle.lane_session.specs.Sending.{AnswersLine, EntersOnce, Sends}
use Rattle.lane_session.specs.declared.session.Stop.{Stop}
use Rattle.lane_session.specs.declared.session.Stop.TheVariants.{Ended}

-- the bytes are those of the reply, which is lawful
pub sends_as : {T E : Type 0} {R : List ℕ → Type 0} {held0 held : Option (List ℕ)} {result : Result T E} (bytes reply : List ℕ) → R reply → bytes ≡ reply → WritesAll held0 held bytes result → Sends R held0 held result
sends_as {T} {E} {R} {held0} {held} {result} bytes reply lawful is sent = record {
  reply = reply;
  lawful = lawful;
  sent = subst (λ (z : List ℕ). WritesAll held0 held z result) is sent;
}

-- the last value has the greatest number
pub last_has : {V : Type 0} (values : List V) (value : V) → EndsWith values value → HasNumber values (length values) value
last_has values value ends = record {
  front = ends.0;
  back = [];
  values_are = ends.1;
  number_is = omega (arith, ap length ends.1, length-append ends.0 (value ∷ []));
}

-- all of a reply was written
pub appends_all : {T E : Type 0} (held0 held : Option (List ℕ)) (reply : List ℕ) (v : T) → WritesAll {T = T} {E = E} held0 held reply (Ok v) → Appends held0 held reply
appends_all held0 held reply v w = subst (λ (l : List ℕ). Appends held0 held l) (sym (w.whole ∙ ap (λ (l : List ℕ). w.front ++ l) w.all ∙ append-nil w.front)) w.appended

-- what came of a line whose reply was sent
pub answers_sent : {V : Type 0} {T E : Type 0} (Replies : V → Option (List ℕ) → List ℕ → Type 0) (before now : Seated V) (line : Option (List ℕ)) (held0 held : Option (List ℕ)) (value : V) (r : Result T E) (stop : Option Stop)
    → stop ≡ (if is_ok r then None else Some (Ended WriteFailed)) → (IsMark line → ⊥) → EntersOnce before now → EndsWith now.values value → Sends (Replies value line) held0 held r → AnswersLine Replies before now line held0 held stop
answers_sent {V} {T} {E} Replies before now line held0 held value (Ok v) stop is unmarked enters ends s =
    subst (λ (stop : Option Stop). AnswersLine Replies before now line held0 held stop) (sym is)
    (record { value = value; reply = s.reply; unmarked = unmarked; enters = enters; has = last_has now.values value ends; lawful = s.lawful }, appends_all {T = T} {E = E} held0 held s.reply v s.sent)
answers_sent {V} {T} {E} Replies before now line held0 held value (Err e) stop is unmarked enters ends s =
    subst (λ (stop : Option Stop). AnswersLine Replies before now line held0 held stop) (sym is)
    (record { value = value; reply = s.reply; unmarked = unmarked; enters = enters; has = last_has now.values value ends; lawful = s.lawful }, s.sent.front, s.sent.rest, s.sent.whole, s.sent.appended)
