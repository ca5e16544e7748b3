-- What readers are told: numbers that never fall, and the greatest of them is what a reader has seen.
use Rattle.std.proofs.Common.{◌≡◌, ℕ, ◌<◌, ◌≤◌, max, List, [], ◌∷◌, ◌++◌, Some, All, fold, length, get_or, refl, arith, rules, ◌∙◌}
use Rattle.std.specs.List.{slice_get, cons_option}
use Rattle.std.proofs.lemmas.Bool.{cases_eq}
use Rattle.std.proofs.lemmas.Grind.{get_or-set_at}
use Rattle.std.proofs.lemmas.List.Elements.{All-cons, All-nil}
use Rattle.live_core.specs.declared.event.Event.{Event}
use Rattle.live_core.specs.declared.event.Event.TheVariants.{Publish, Enter, Learn}
use Rattle.live_core.specs.declared.event.Outcome.TheVariants.{Answered}
use Rattle.live_core.specs.Machine.{Live, number_of, after, after_all, outcome, outcomes}
use Rattle.live_core.specs.Laws.{IsSound, told, numbers_of}
use Rattle.live_core.proofs.Runs.{all_number, keeps_readers, outcome_at, seen_below, sound_after}

abbrev AllUpTo : ℕ → List ℕ → Type 0
AllUpTo bound numbers = All (λ number. number ≤ bound) numbers

module _ {X : Type 0} where
  tells : (s : Live X) (event : Event X) (reader bound : ℕ) (rest : List ℕ) → number_of s ≤ bound → AllUpTo bound rest → AllUpTo bound (cons_option (told reader (event, outcome s event)) rest)
  tells s (Publish next) reader bound rest below all = all
  tells s (Enter other) reader bound rest below all = search (rules, All-cons)
  tells s (Learn other upto) reader bound rest below all = search (rules, All-cons)

  all_up_to : (s : Live X) (events : List (Event X)) (reader : ℕ) → AllUpTo (number_of (after_all s events)) (numbers_of reader s events)
  all_up_to s [] reader = All-nil (λ number. number ≤ number_of s)
  all_up_to s (event ∷ events) reader =
      let grows = all_number s (event ∷ events) in
      tells s event reader (number_of (after_all s (event ∷ events))) (numbers_of reader (after s event) events) (omega (arith, grows)) (all_up_to (after s event) events reader)

  pub never_fall : (s : Live X) (events more : List (Event X)) (reader number : ℕ) (value : X)
      → slice_get (outcomes s (events ++ Enter reader ∷ more)) (length events) ≡ Some (Answered number value) → AllUpTo number (numbers_of reader s events)
  never_fall s events more reader number value is = search (rules, outcome_at s events more (Enter reader), all_up_to s events reader)

  -- what a reader has seen, after a step

  abbrev Sees : Live X → Event X → ℕ → List ℕ → Type 0
  Sees s event reader rest = fold max (get_or (after s event).seen reader 0) rest ≡ fold max (get_or s.seen reader 0) (cons_option (told reader (event, outcome s event)) rest)

  sees : (s : Live X) (event : Event X) (reader : ℕ) (rest : List ℕ) → IsSound s → reader < length s.seen → Sees s event reader rest
  sees s (Publish next) reader rest sound there = search rules
  sees s (Enter other) reader rest sound there = search (rules, get_or-set_at, cases_eq, seen_below s reader sound)
  sees s (Learn other upto) reader rest sound there = search (rules, get_or-set_at, cases_eq)

  pub greatest_seen : (s : Live X) (events : List (Event X)) (reader : ℕ) → IsSound s → reader < length s.seen
      → get_or (after_all s events).seen reader 0 ≡ fold max (get_or s.seen reader 0) (numbers_of reader s events)
  greatest_seen s [] reader sound there = refl
  greatest_seen s (event ∷ events) reader sound there =
      greatest_seen (after s event) events reader (sound_after s event sound) (rw (keeps_readers s event) there)
      ∙ sees s event reader (numbers_of reader (after s event) events) sound there
