-- The live machine. Values are published one after another and have the numbers from 1; each reader has the number that it has
-- seen.
use Rattle.std.specs.Prelude.{ℕ, ◌+◌, List, [], ◌∷◌, ◌++◌, length, nat_lt, nat_le, max, if◌then◌else◌, replicate, slice_index, slice_set}
use Rattle.live_core.specs.declared.event.Event.{Event}
use Rattle.live_core.specs.declared.event.Event.TheVariants.{Publish, Enter, Learn}
use Rattle.live_core.specs.declared.event.Outcome.{Outcome}
use Rattle.live_core.specs.declared.event.Outcome.TheVariants.{Published, Answered, Learnt, NoReader, NotYet, NoRoom}

-- the published values are `first` and then `later`, of which there may be `room`
pub record Live (X : Type 0) : Type 0 where
  pub first : X
  pub later : List X
  pub seen : List ℕ
  pub room : ℕ

-- the first value is published, and each reader has seen it
abbrev pub opened : {X : Type 0} → X → ℕ → ℕ → Live X
opened first readers room = record { first = first; later = []; seen = replicate readers 1; room = room }

-- the last of a value and those behind it
abbrev pub last_of : {X : Type 0} → X → List X → X
last_of x [] = x
last_of x (y ∷ ys) = last_of y ys

-- the number of the last published value, and this value
abbrev pub number_of : {X : Type 0} → Live X → ℕ
number_of s = length s.later + 1

abbrev pub value_of : {X : Type 0} → Live X → X
value_of s = last_of s.first s.later

-- what an event changes. `slice_set` at a reader that isn't there changes nothing
abbrev pub after : {X : Type 0} → Live X → Event X → Live X
after s (Publish next) = (if nat_lt (length s.later) s.room then record s { later = s.later ++ next ∷ [] } else s)
after s (Enter reader) = record s { seen = slice_set s.seen reader (number_of s) }
after s (Learn reader upto) = (if nat_le upto (number_of s) then record s { seen = slice_set s.seen reader (max (slice_index s.seen reader) upto) } else s)

abbrev pub outcome : {X : Type 0} → Live X → Event X → Outcome X
outcome s (Publish next) = (if nat_lt (length s.later) s.room then Published (number_of s + 1) else NoRoom)
outcome s (Enter reader) = (if nat_lt reader (length s.seen) then Answered (number_of s) (value_of s) else NoReader)
outcome s (Learn reader upto) = (if nat_lt reader (length s.seen) then (if nat_le upto (number_of s) then Learnt else NotYet) else NoReader)

-- events one after another
abbrev pub after_all : {X : Type 0} → Live X → List (Event X) → Live X
after_all s [] = s
after_all s (event ∷ events) = after_all (after s event) events

abbrev pub outcomes : {X : Type 0} → Live X → List (Event X) → List (Outcome X)
outcomes s [] = []
outcomes s (event ∷ events) = outcome s event ∷ outcomes (after s event) events
