-- What a call that takes a line puts behind a caller's bytes.
use Rattle.std.specs.Prelude.{◌≡◌, ℕ, ◌-◌, ◌≤◌, Bool, false, List, [], ◌∷◌, ◌++◌, length, take, Option, Result, Ok, MatchBool, MatchResult}
use Rattle.fsm_io.specs.Buffers.{BufferView}
use Rattle.fsm_io.specs.Gather.{Moves, Gathered}
use Rattle.fsm_io.specs.Reading.{LinesView, NextEvent, IsLineEvent}
use Rattle.fsm_io.specs.declared.lines.LineEvent.{LineEvent}
use Rattle.fsm_io.specs.declared.lines.LineEvent.TheVariants.{Line, Long, End, Failed, Over}
use Rattle.fsm_io.specs.declared.lines.Step.{Step}

-- others behind the bytes, as far as there are at most `keep`
abbrev pub filled : ℕ → List ℕ → List ℕ → List ℕ
filled keep into bytes = into ++ take (keep - length into) bytes

-- others were put so behind the bytes, or where memory lacks a front of them
pub record Puts (keep : ℕ) (into0 bytes into : List ℕ) (lacks : Bool) : Type 0 where
  pub whole : lacks ≡ false → into ≡ filled keep into0 bytes
  pub count : ℕ
  pub inside : count ≤ length bytes
  pub few : count ≤ keep - length into0
  pub front : into ≡ into0 ++ take count bytes

-- nothing more is put once memory lacks
abbrev pub PutsNext : ℕ → List ℕ → List ℕ → List ℕ → Bool → Bool → Type 0
PutsNext keep into0 bytes into lacks0 lacks = MatchBool lacks (into ≡ into0) ((lacks0 ≡ false) × (into ≡ filled keep into0 bytes))

-- a front of the held bytes went to the line, and behind the caller's bytes too
pub record MovesInto (held0 held : List ℕ) (line0 line : BufferView) (keep : ℕ) (into0 into : List ℕ) (lacks0 lacks whole : Bool) : Type 0 where
  pub moves : Moves held0 held line0 line whole
  pub puts : PutsNext keep into0 moves.piece into lacks0 lacks

-- the same of all bytes held and taken from the source
pub record GatheredInto (left0 left : Option (List ℕ)) (budget0 budget : ℕ) (line0 line : BufferView) (held0 held : List ℕ) (keep : ℕ) (into0 into : List ℕ) (lacks : Bool) (ended : Step) : Type 0 where
  pub gathered : Gathered left0 left budget0 budget line0 line held0 held ended
  pub puts : Puts keep into0 gathered.piece into lacks

-- and of the event that these are
pub record NextInto (left0 left : Option (List ℕ)) (old new : LinesView) (keep : ℕ) (into0 into : List ℕ) (lacks : Bool) (event : LineEvent) : Type 0 where
  pub next : NextEvent left0 left old new event
  pub puts : Puts keep into0 next.piece into lacks

-- a long line is taken as every other
abbrev pub taken_as : LineEvent → LineEvent
taken_as Line = Line
taken_as Long = Line
taken_as End = End
taken_as Failed = Failed
taken_as Over = Over

-- what a call takes that read this piece of a line: with a newline, where the line is told
abbrev pub taken_of : LineEvent → List ℕ → List ℕ
taken_of Line piece = piece ++ 10 ∷ []
taken_of Long piece = piece ++ 10 ∷ []
taken_of End piece = piece
taken_of Failed piece = piece
taken_of Over piece = piece

-- what is answered is the event that `next` would have, but for a long line; or that there was no memory for a line. What the
-- call read of a line that is answered stands behind the caller's bytes, with a newline, as far as there are at most `keep`;
-- and else a front of what it read
pub record TakesLine {E : Type 0} (left0 left : Option (List ℕ)) (old new : LinesView) (keep : ℕ) (into0 into : List ℕ) (result : Result LineEvent E) : Type 0 where
  pub event : LineEvent
  pub next : NextEvent left0 left old new event
  pub answer : MatchResult result (λ told. told ≡ taken_as event) (λ refused. IsLineEvent event)
  pub whole : result ≡ Ok Line → into ≡ filled keep into0 (taken_of event next.piece)
  pub count : ℕ
  pub few : count ≤ keep - length into0
  pub front : into ≡ into0 ++ take count (taken_of event next.piece)
