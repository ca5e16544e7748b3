-- What contracts see of a board, and which events of the live machine (live_core) its calls are.
use Rattle.std.specs.Prelude.{◌≡◌, ℕ, ◌+◌, ◌≤◌, List, [], ◌∷◌, ◌++◌, length, map}
use Rattle.live_core.specs.declared.event.Event.{Event}
use Rattle.live_core.specs.declared.event.Event.TheVariants.{Publish, Enter, Learn}
use Rattle.live_core.specs.declared.event.Outcome.{Outcome}
use Rattle.live_core.specs.declared.event.Outcome.TheVariants.{Published, Answered, Learnt}
use Rattle.live_core.specs.Machine.{Live, after_all, number_of, outcomes, value_of}
use Rattle.publish_board.specs.Published.{Board}

-- the list ends with x
abbrev pub EndsWith : {X : Type 0} → List X → X → Type 0
EndsWith {X} xs x = (front : List X) × (xs ≡ front ++ x ∷ [])

-- what is seen of a seat: the values up to the one that it has, which board's they are, and how often it entered
pub record Seated (X : Type 0) : Type 0 where
  pub board : Board
  pub values : List X
  pub entered : ℕ

abbrev pub seated : {X : Type 0} → Board → List X → ℕ → Seated X
seated b xs n = record { board = b; values = xs; entered = n }

-- the state of the machine in which `first` and then `later` are published, and whose readers have seen these numbers
abbrev pub state_of : {X : Type 0} → X → List X → List ℕ → ℕ → Live X
state_of first later seen room = record { first = first; later = later; seen = seen; room = room }

-- the same with one reader, which has seen the number of the last value
abbrev pub up_to_date : {X : Type 0} → X → List X → ℕ → Live X
up_to_date first later room = state_of first later ((length later + 1) ∷ []) room

-- what comes of publishing these values one after another, the first of which has the number n
abbrev pub published_from : {X : Type 0} → ℕ → List X → List (Outcome X)
published_from n [] = []
published_from n (x ∷ xs) = Published n ∷ published_from (n + 1) xs

-- these events have these outcomes in the state s, and the state afterwards is t
abbrev pub Comes : {X : Type 0} → Live X → List (Event X) → List (Outcome X) → Live X → Type 0
Comes s events found t = (outcomes s events ≡ found) × (after_all s events ≡ t)

-- One Publish of `next` makes the values `before` the values `now`: in each state whose values are `before` and that has room for
-- one more, whatever its readers have seen.
abbrev pub IsPublish : {X : Type 0} → List X → X → List X → Type 0
IsPublish [] next now = ⊥
IsPublish (first ∷ later) next now = (now ≡ (first ∷ later) ++ next ∷ []) × ((seen : List ℕ) (room : ℕ) → length later + 1 ≤ room →
    Comes (state_of first later seen room) (Publish next ∷ []) (Published (length now) ∷ []) (state_of first (later ++ next ∷ []) seen room))

-- What `now` has behind `before` is published, value by value, and then one Enter takes a reader from `before` to `now`: in each state
-- whose values are `before`, whose one reader has seen the number of the last one, and that has room for the others. Each Publish is
-- answered with the next number, and Enter with the last value of `now` and its number.
abbrev pub IsEnter : {X : Type 0} → List X → List X → Type 0
IsEnter [] now = ⊥
IsEnter {X} (first ∷ later) now = (more : List X) × (now ≡ (first ∷ later) ++ more) × ((room : ℕ) → length later + length more ≤ room →
    let s = up_to_date first later room in
    let t = up_to_date first (later ++ more) room in
    Comes s (map Publish more ++ Enter 0 ∷ []) (published_from (number_of s + 1) more ++ Answered (number_of t) (value_of t) ∷ []) t)

-- The same with one Learn up to the number of the last value of `now` before the Enter.
abbrev pub IsLearn : {X : Type 0} → List X → List X → Type 0
IsLearn [] now = ⊥
IsLearn {X} (first ∷ later) now = (more : List X) × (now ≡ (first ∷ later) ++ more) × ((room : ℕ) → length later + length more ≤ room →
    let s = up_to_date first later room in
    let t = up_to_date first (later ++ more) room in
    Comes s (map Publish more ++ Learn 0 (number_of t) ∷ Enter 0 ∷ []) (published_from (number_of s + 1) more ++ Learnt ∷ Answered (number_of t) (value_of t) ∷ []) t)
