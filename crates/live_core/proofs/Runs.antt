-- Lists of events: what is published, what is answered, and that states stay sound.
use Rattle.std.proofs.Common.{◌≡◌, ℕ, ◌+◌, ◌-◌, ◌<◌, ◌≤◌, ltb, List, [], ◌∷◌, ◌++◌, Some, length, get_or, set, refl, ap, arith, rules, ◌∙◌, inl, inr, unwrap_or, length-append, append_assoc}
use Rattle.std.proofs.Math.Numerals.{sub-one}
use Rattle.std.specs.List.{slice_get, cons_option}
use Rattle.std.proofs.lemmas.Bool.{cases_lt, cond_both}
use Rattle.std.proofs.lemmas.List.{append-nil, length-set, get_or_past, set_past}
use Rattle.std.proofs.lemmas.List.Elements.{All-get_or, All-replicate, All-set, All-weaker}
use Rattle.live_core.specs.declared.event.Event.{Event}
use Rattle.live_core.specs.declared.event.Event.TheVariants.{Publish, Enter, Learn}
use Rattle.live_core.specs.declared.event.Outcome.TheVariants.{Answered}
use Rattle.live_core.specs.Machine.{Live, opened, last_of, number_of, value_of, after, after_all, outcome, outcomes}
use Rattle.live_core.specs.Laws.{IsSound, IsRefusal, published, values_of}

-- the last value

slice_get-last : {X : Type 0} (x : X) (xs : List X) → slice_get (x ∷ xs) (length xs) ≡ Some (last_of x xs)
slice_get-last x [] = refl
slice_get-last x (y ∷ ys) = slice_get-last y ys

-- the last value of a list, or the first one where it is empty
pub unwrap_or-last : {X : Type 0} (x : X) (xs : List X) → unwrap_or (slice_get xs (length xs - 1)) x ≡ last_of x xs
unwrap_or-last x [] = refl
unwrap_or-last x (y ∷ ys) = rw sub-one (ap (λ o. unwrap_or o x) (slice_get-last y ys))

last_of-append : {X : Type 0} (x : X) (xs ys : List X) → last_of x (xs ++ ys) ≡ last_of (last_of x xs) ys
last_of-append x [] ys = refl
last_of-append x (z ∷ zs) ys = last_of-append z zs ys

module _ {X : Type 0} where
  -- sound states

  pub sound_opened : (first : X) (readers room : ℕ) → IsSound (opened first readers room)
  sound_opened first readers room = All-replicate (λ number. number ≤ number_of (opened first readers room)) readers 1 (omega arith)

  pub seen_below : (s : Live X) (reader : ℕ) → IsSound s → get_or s.seen reader 0 ≤ number_of s
  seen_below s reader sound =
      elim (cases_lt reader (length s.seen)) [
        | inl there ↦ All-get_or (λ number. number ≤ number_of s) s.seen reader 0 there sound
        | inr past ↦ rw (get_or_past s.seen reader 0 past) (omega arith)
      ]

  pub sound_after : (s : Live X) (event : Event X) → IsSound s → IsSound (after s event)
  sound_after s (Publish next) sound =
      let more : Live X = record s { later = s.later ++ next ∷ [] } in
      cond_both (ltb (length s.later) s.room) more s IsSound
      (λ _. All-weaker (λ number. number ≤ number_of s) (λ number. number ≤ number_of more) (λ number below. omega (arith, length-append s.later (next ∷ []))) s.seen sound)
      (λ _. sound)
  sound_after s (Enter reader) sound = search (rules, All-set)
  sound_after s (Learn reader upto) sound = search (rules, seen_below s reader sound, All-set)

  -- refusals

  set_beyond : (s : Live X) (reader number : ℕ) → length s.seen ≤ reader → record s { seen = set s.seen reader number } ≡ s
  set_beyond s reader number past = ap (λ seen. record s { seen = seen }) (set_past s.seen reader number past)

  pub refusal : (s : Live X) (event : Event X) → IsRefusal (outcome s event) → after s event ≡ s
  refusal s (Publish next) refused = search rules
  refusal s (Enter reader) refused = search (rules, set_beyond)
  refusal s (Learn reader upto) refused = search (rules, set_beyond)

  -- published values

  adds : (s : Live X) (event : Event X) (rest : List X) → (after s event).later ++ rest ≡ s.later ++ cons_option (published (event, outcome s event)) rest
  adds s (Publish next) rest = search (rules, append_assoc)
  adds s (Enter reader) rest = refl
  adds s (Learn reader upto) rest = search rules

  keeps_first : (s : Live X) (event : Event X) → (after s event).first ≡ s.first
  keeps_first s (Publish next) = search rules
  keeps_first s (Enter reader) = refl
  keeps_first s (Learn reader upto) = search rules

  pub keeps_readers : (s : Live X) (event : Event X) → length (after s event).seen ≡ length s.seen
  keeps_readers s (Publish next) = search rules
  keeps_readers s (Enter reader) = length-set s.seen reader (number_of s)
  keeps_readers s (Learn reader upto) = search rules

  pub all_readers : (s : Live X) (events : List (Event X)) → length (after_all s events).seen ≡ length s.seen
  all_readers s [] = refl
  all_readers s (event ∷ events) = all_readers (after s event) events ∙ keeps_readers s event

  pub all_first : (s : Live X) (events : List (Event X)) → (after_all s events).first ≡ s.first
  all_first s [] = refl
  all_first s (event ∷ events) = all_first (after s event) events ∙ keeps_first s event

  pub all_later : (s : Live X) (events : List (Event X)) → (after_all s events).later ≡ s.later ++ values_of s events
  all_later s [] = search (rules, append-nil)
  all_later s (event ∷ events) = all_later (after s event) events ∙ adds s event (values_of (after s event) events)

  pub all_number : (s : Live X) (events : List (Event X)) → number_of (after_all s events) ≡ number_of s + length (values_of s events)
  all_number s events = omega (arith, ap length (all_later s events), length-append s.later (values_of s events))

  pub all_value : (s : Live X) (events : List (Event X)) → value_of (after_all s events) ≡ last_of (value_of s) (values_of s events)
  all_value s events = rw (all_first s events, all_later s events) (last_of-append s.first s.later (values_of s events))

  -- what is answered at a place

  pub outcome_at : (s : Live X) (events more : List (Event X)) (event : Event X) → slice_get (outcomes s (events ++ event ∷ more)) (length events) ≡ Some (outcome (after_all s events) event)
  outcome_at s [] more event = refl
  outcome_at s (first ∷ events) more event = outcome_at (after s first) events more event

  pub enter_at : (s : Live X) (events more : List (Event X)) (reader : ℕ) → reader < length s.seen
      → slice_get (outcomes s (events ++ Enter reader ∷ more)) (length events) ≡ Some (Answered (number_of s + length (values_of s events)) (last_of (value_of s) (values_of s events)))
  enter_at s events more reader there =
      search (rules, outcome_at s events more (Enter reader), all_readers s events, all_number s events, all_value s events)
