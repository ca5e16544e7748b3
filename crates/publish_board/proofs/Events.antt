-- What calls do, as events of the live machine.
use Rattle.std.proofs.Common.{◌≡◌, ℕ, ◌+◌, ◌<◌, ◌≤◌, List, [], ◌∷◌, ◌++◌, length, map, arith, refl, ap, sym, ◌∙◌, subst, append_assoc, length-append}
use Rattle.std.proofs.lemmas.Bool.{lt-ltb, le-leb}
use Rattle.std.proofs.lemmas.List.{append-nil}
use mathlib.Core.List.{IsPrefix}
use Rattle.live_core.specs.declared.event.Event.{Event}
use Rattle.live_core.specs.declared.event.Event.TheVariants.{Publish, Enter, Learn}
use Rattle.live_core.specs.declared.event.Outcome.{Outcome}
use Rattle.live_core.specs.declared.event.Outcome.TheVariants.{Published, Answered, Learnt}
use Rattle.live_core.specs.Machine.{Live, after, after_all, number_of, outcome, outcomes, value_of}
use Rattle.publish_board.specs.Boards.{Comes, IsPublish, IsEnter, IsLearn, published_from, state_of, up_to_date}

module _ {X : Type 0} where
  -- one value is published where there is room
  publish_one : (first next : X) (later : List X) (seen : List ℕ) (room : ℕ) → length later < room
      → (outcome (state_of first later seen room) (Publish next) ≡ Published (length later + 1 + 1)) × (after (state_of first later seen room) (Publish next) ≡ state_of first (later ++ next ∷ []) seen room)
  publish_one first next later seen room there = rw (lt-ltb (length later) room there) (refl, refl)

  -- events before others
  comes_cons : (s t u : Live X) (event : Event X) (found : Outcome X) (events : List (Event X)) (more : List (Outcome X)) → (outcome s event ≡ found) × (after s event ≡ t) → Comes t events more u
      → Comes s (event ∷ events) (found ∷ more) u
  comes_cons s t u event found events more one rest = (cc (one.0, subst (λ (z : Live X). outcomes z events ≡ more) (sym one.1) rest.0), subst (λ (z : Live X). after_all z events ≡ u) (sym one.1) rest.1)

  -- values are published one after another, and then come other events
  publish_all : (first : X) (later more : List X) (seen : List ℕ) (room : ℕ) (events : List (Event X)) (found : List (Outcome X)) (u : Live X) → length later + length more ≤ room
      → Comes (state_of first (later ++ more) seen room) events found u → Comes (state_of first later seen room) (map Publish more ++ events) (published_from (length later + 1 + 1) more ++ found) u
  publish_all first later [] seen room events found u there then = subst (λ (xs : List X). Comes (state_of first xs seen room) events found u) (append-nil later) then
  publish_all first later (next ∷ more) seen room events found u there then =
      let grown : length (later ++ next ∷ []) ≡ length later + 1 = length-append later (next ∷ []) in
      let then' : Comes (state_of first ((later ++ next ∷ []) ++ more) seen room) events found u = rw (append_assoc later (next ∷ []) more) then in
      let rest : Comes (state_of first (later ++ next ∷ []) seen room) (map Publish more ++ events) (published_from (length (later ++ next ∷ []) + 1 + 1) more ++ found) u = publish_all first (later ++ next ∷ []) more seen room events found u (omega arith) then' in
      comes_cons (state_of first later seen room) (state_of first (later ++ next ∷ []) seen room) u (Publish next) (Published (length later + 1 + 1)) (map Publish more ++ events) (published_from (length later + 1 + 1 + 1) more ++ found)
      (publish_one first next later seen room (omega arith)) (rw grown at rest)

  pub is_publish : (before : List X) (next : X) → 0 < length before → IsPublish before next (before ++ next ∷ [])
  is_publish [] next filled = absurd (omega arith)
  is_publish (first ∷ later) next filled = (
    refl,
    λ seen room there.
        let one = publish_one first next later seen room (omega arith) in
        let count : length later + 1 + 1 ≡ length ((first ∷ later) ++ next ∷ []) = omega (arith, length-append (first ∷ later) (next ∷ [])) in
        let then = state_of first (later ++ next ∷ []) seen room in
        comes_cons (state_of first later seen room) then then (Publish next) (Published (length ((first ∷ later) ++ next ∷ []))) [] [] (one.0 ∙ ap Published count, one.1) (refl, refl),
  )

  enters : (first : X) (later : List X) (number room : ℕ) → let t = up_to_date first later room in
      Comes (state_of first later (number ∷ []) room) (Enter 0 ∷ []) (Answered (number_of t) (value_of t) ∷ []) t
  enters first later number room = (refl, refl)

  learns : (first : X) (later : List X) (number room : ℕ) → let t = up_to_date first later room in
      Comes (state_of first later (number ∷ []) room) (Learn 0 (number_of t) ∷ Enter 0 ∷ []) (Learnt ∷ Answered (number_of t) (value_of t) ∷ []) t
  learns first later number room = rw (le-leb (length later + 1) (length later + 1) (omega arith)) (refl, refl)

  pub is_enter : (before now : List X) → 0 < length before → IsPrefix before now → IsEnter before now
  is_enter [] now filled begins = absurd (omega arith)
  is_enter (first ∷ later) now filled (more, is) = (
    more,
    sym is,
    λ room there.
        let t = up_to_date first (later ++ more) room in
        publish_all first later more ((length later + 1) ∷ []) room (Enter 0 ∷ []) (Answered (number_of t) (value_of t) ∷ []) t there (enters first (later ++ more) (length later + 1) room),
  )

  pub is_learn : (before now : List X) → 0 < length before → IsPrefix before now → IsLearn before now
  is_learn [] now filled begins = absurd (omega arith)
  is_learn (first ∷ later) now filled (more, is) = (
    more,
    sym is,
    λ room there.
        let t = up_to_date first (later ++ more) room in
        publish_all first later more ((length later + 1) ∷ []) room (Learn 0 (number_of t) ∷ Enter 0 ∷ []) (Learnt ∷ Answered (number_of t) (value_of t) ∷ []) t there (learns first (later ++ more) (length later + 1) room),
  )
