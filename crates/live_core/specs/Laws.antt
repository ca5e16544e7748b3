-- What lists of events come to.
use Rattle.std.specs.Prelude.{◌≡◌, ◌==◌, ℕ, ◌+◌, ◌<◌, ◌≤◌, List, [], ◌∷◌, ◌++◌, All, Option, Some, None, length, max, fold, filter_map, zip, if◌then◌else◌, slice_get, slice_index}
use Rattle.live_core.specs.declared.event.Event.{Event}
use Rattle.live_core.specs.declared.event.Event.TheVariants.{Publish, Enter, Learn}
use Rattle.live_core.specs.declared.event.Outcome.{Outcome}
use Rattle.live_core.specs.declared.event.Outcome.TheVariants.{Published, Answered, Learnt, NoReader, NotYet, NoRoom}
use Rattle.live_core.specs.Machine.{Live, opened, last_of, number_of, value_of, after, after_all, outcome, outcomes}

-- no reader has seen a number that wasn't published
abbrev pub IsSound : {X : Type 0} → Live X → Type 0
IsSound s = All (λ number. number ≤ number_of s) s.seen

abbrev pub IsRefusal : {X : Type 0} → Outcome X → Type 0
IsRefusal NoReader = Unit {0}
IsRefusal NotYet = Unit {0}
IsRefusal NoRoom = Unit {0}
IsRefusal _ = ⊥

-- the value that an event with this outcome published
abbrev pub published : {X : Type 0} → Event X × Outcome X → Option X
published (Publish next, Published number) = Some next
published _ = None

-- the number that an event with this outcome told the reader
abbrev pub told : {X : Type 0} → ℕ → Event X × Outcome X → Option ℕ
told reader (Enter other, Answered number value) = (if other == reader then Some number else None)
told reader (Learn other upto, Learnt) = (if other == reader then Some upto else None)
told reader _ = None

abbrev pub values_of : {X : Type 0} → Live X → List (Event X) → List X
values_of s events = filter_map published (zip events (outcomes s events))

abbrev pub numbers_of : {X : Type 0} → ℕ → Live X → List (Event X) → List ℕ
numbers_of reader s events = filter_map (told reader) (zip events (outcomes s events))

abbrev pub StatesStaySound : Type 0 → Type 0
StatesStaySound X = ((first : X) (readers room : ℕ) → IsSound (opened first readers room)) × ((s : Live X) (event : Event X) → IsSound s → IsSound (after s event))

abbrev pub RefusalsChangeNothing : Type 0 → Type 0
RefusalsChangeNothing X = (s : Live X) (event : Event X) → IsRefusal (outcome s event) → after s event ≡ s

abbrev pub PublishAddsOne : Type 0 → Type 0
PublishAddsOne X = (s : Live X) (next : X) → length s.later < s.room
    → (outcome s (Publish next) ≡ Published (number_of s + 1)) × (after s (Publish next) ≡ record s { later = s.later ++ next ∷ [] })

abbrev pub EnterSeesAll : Type 0 → Type 0
EnterSeesAll X = (s : Live X) (reader : ℕ) → reader < length s.seen
    → (outcome s (Enter reader) ≡ Answered (number_of s) (value_of s)) × (slice_index (after s (Enter reader)).seen reader ≡ number_of s)

-- learning of the last value, and then entering
abbrev pub LearnThenEnter : Type 0 → Type 0
LearnThenEnter X = (s : Live X) (reader : ℕ) → reader < length s.seen → let events = Learn reader (number_of s) ∷ Enter reader ∷ [] in
    (outcomes s events ≡ Learnt ∷ Answered (number_of s) (value_of s) ∷ []) × (slice_index (after_all s events).seen reader ≡ number_of s)

abbrev pub PublishedValuesStay : Type 0 → Type 0
PublishedValuesStay X = (s : Live X) (events : List (Event X)) → ((after_all s events).first ≡ s.first) × ((after_all s events).later ≡ s.later ++ values_of s events)

-- the number is the one before the list and then one more for each value that was published before this place
abbrev pub EnterAnswersLast : Type 0 → Type 0
EnterAnswersLast X = (s : Live X) (events more : List (Event X)) (reader : ℕ) → reader < length s.seen
    → let values = values_of s events in slice_get (outcomes s (events ++ Enter reader ∷ more)) (length events) ≡ Some (Answered (number_of s + length values) (last_of (value_of s) values))

abbrev pub NumbersNeverFall : Type 0 → Type 0
NumbersNeverFall X = (s : Live X) (events more : List (Event X)) (reader number : ℕ) (value : X)
    → slice_get (outcomes s (events ++ Enter reader ∷ more)) (length events) ≡ Some (Answered number value) → All (λ before. before ≤ number) (numbers_of reader s events)

abbrev pub GreatestNumberIsSeen : Type 0 → Type 0
GreatestNumberIsSeen X = (s : Live X) (events : List (Event X)) (reader : ℕ) → IsSound s → reader < length s.seen
    → slice_index (after_all s events).seen reader ≡ fold max (slice_index s.seen reader) (numbers_of reader s events)
