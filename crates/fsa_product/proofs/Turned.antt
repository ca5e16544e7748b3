-- The complement: in each state the other words.
use Rattle.std.proofs.Common.{◌≡◌, ℕ, ◌+◌, ◌*◌, ◌<◌, ◌⊎◌, ◌↔◌, List, [], ◌∷◌, Bool, true, false, Some, length, map, get_or, not, subst, sym, ap, inl, inr, arith, ◌∙◌}
use Rattle.std.specs.List.{slice_get, Contains}
use Rattle.std.specs.Option.{option_map}
use Rattle.std.proofs.lemmas.Option.{slice_get_within, slice_get-get_or, slice_get-map}
use Rattle.std.proofs.lemmas.List.Elements.{All-nil, All-cons, All-head, All-tail}
use Rattle.std.proofs.lemmas.Nat.{mul-add-lt}
use Rattle.word_relations.specs.Words.{IsOver}
use Rattle.word_relations.proofs.Places.{Contains-from_slice_get, slice_get_from_Contains, same_at}
use Rattle.fsa.specs.Complete.{Complete, IsComplete, AcceptsFrom, Accepts, stop, read, next_state}
use Rattle.fsa.proofs.Paths.{stop_back, read_back}

-- the letter at a place leads from a state that is there to one that is there
pub next_there : {L : Type 0} (d : Complete L) → IsComplete d → (s k : ℕ) → s < length d.finals → k < length d.letters → (t : ℕ) × (next_state d s k ≡ Some t) × (t < length d.finals)
next_there d ok s k state place =
    let i : ℕ = s * length d.letters + k in
    let full : length d.next ≡ length d.finals * length d.letters = ok.full in
    let inside : i < length d.next = let m = mul-add-lt s (length d.letters) k (length d.finals) state place in omega arith in
    (get_or d.next i 0, slice_get-get_or d.next i 0 inside, ok.within i 0 inside)

module _ {L : Type 0} (d : Complete L) (ok : IsComplete d) where
  -- each word over the letters is accepted or not
  pub accepts_or_not : (w : List L) (s : ℕ) → s < length d.finals → IsOver d.letters w → AcceptsFrom d s w ⊎ (AcceptsFrom d s w → ⊥)
  accepts_or_not [] s there over = go (get_or d.finals s false) (slice_get-get_or d.finals s false there)
    where
      go : (b : Bool) → slice_get d.finals s ≡ Some b → AcceptsFrom d s [] ⊎ (AcceptsFrom d s [] → ⊥)
      go true at = inl (stop at)
      go false at = inr (λ h. let clash : Some false ≡ Some true = sym at ∙ stop_back d s h in absurd (cc))
  accepts_or_not (x ∷ w) s there over =
      let place = slice_get_from_Contains d.letters x (All-head (Contains d.letters) x w over) in
      let k : ℕ = place.0 in
      let letter : slice_get d.letters k ≡ Some x = place.1 in
      let t = next_there d ok s k there (slice_get_within d.letters k x letter) in
      elim (accepts_or_not w t.0 t.2 (All-tail (Contains d.letters) x w over)) [
        | inl h ↦ inl (read k letter t.1 h)
        | inr never ↦ inr (λ h. never (read_back d ok.distinct s t.0 k x w letter t.1 h))
      ]

  -- an accepted word is over the letters
  pub accepted_over : {s : ℕ} {w : List L} → AcceptsFrom d s w → IsOver d.letters w
  accepted_over (stop h) = All-nil (Contains d.letters)
  accepted_over (read {x = x} {w = w} k letter goes rest) = All-cons (Contains d.letters) x w (Contains-from_slice_get d.letters k x letter) (accepted_over rest)

  pub undone : (w : List L) → (IsOver d.letters w × ¬ (IsOver d.letters w × ¬ Accepts d w)) ↔ Accepts d w
  undone w = (
    λ h. elim (accepts_or_not w 0 ok.start h.0) [
      | inl accepted ↦ accepted
      | inr never ↦ absurd (h.1 (h.0, never))
    ],
    λ accepted. (accepted_over accepted, λ h. h.1 accepted),
  )

  -- the same automaton with each final state made not final, and the other way round
  module _ (c : Complete L) (letters : c.letters ≡ d.letters) (next : c.next ≡ d.next) (finals : c.finals ≡ map not d.finals) where
    abbrev turned : Complete L
    turned = record { letters = d.letters; next = d.next; finals = map not d.finals }

    turned_at : (s : ℕ) (b : Bool) → slice_get d.finals s ≡ Some b → slice_get (map not d.finals) s ≡ Some (not b)
    turned_at s b at = slice_get-map not d.finals s ∙ ap (option_map not) at

    down : {s : ℕ} {w : List L} → AcceptsFrom turned s w → s < length d.finals → AcceptsFrom d s w → ⊥
    down {s} (stop h) there accepted =
        let clash : Some true ≡ Some false = sym h ∙ turned_at s true (stop_back d s accepted) in absurd (cc)
    down {s} (read {t = t} {x = x} {w = w} k letter goes rest) there accepted =
        let n = next_there d ok s k there (slice_get_within d.letters k x letter) in
        let same : n.0 ≡ t = same_at d.next (s * length d.letters + k) n.0 t n.1 goes in
        down rest (subst (λ u. u < length d.finals) same n.2) (read_back d ok.distinct s t k x w letter goes accepted)

    over : {s : ℕ} {w : List L} → AcceptsFrom turned s w → IsOver d.letters w
    over (stop h) = All-nil (Contains d.letters)
    over (read {x = x} {w = w} k letter goes rest) = All-cons (Contains d.letters) x w (Contains-from_slice_get d.letters k x letter) (over rest)

    up : (w : List L) (s : ℕ) → s < length d.finals → IsOver d.letters w → (AcceptsFrom d s w → ⊥) → AcceptsFrom turned s w
    up [] s there all never = go (get_or d.finals s false) (slice_get-get_or d.finals s false there)
      where
        go : (b : Bool) → slice_get d.finals s ≡ Some b → AcceptsFrom turned s []
        go true at = absurd (never (stop at))
        go false at = stop (turned_at s false at)
    up (x ∷ w) s there all never =
        let place = slice_get_from_Contains d.letters x (All-head (Contains d.letters) x w all) in
        let k : ℕ = place.0 in
        let letter : slice_get d.letters k ≡ Some x = place.1 in
        let t = next_there d ok s k there (slice_get_within d.letters k x letter) in
        read k letter t.1 (up w t.0 t.2 (All-tail (Contains d.letters) x w all) (λ h. never (read k letter t.1 h)))

    turned_language : (w : List L) → Accepts turned w ↔ (IsOver d.letters w × ¬ Accepts d w)
    turned_language w = (λ h. (over h, down h ok.start), λ h. up w 0 ok.start h.0 h.1)

    pub complement_language : (w : List L) → Accepts c w ↔ (IsOver d.letters w × ¬ Accepts d w)
    complement_language w =
        let P : List L → List ℕ → List Bool → Type 0 = λ ls ns fs. (Accepts (record { letters = ls; next = ns; finals = fs }) w) ↔ (IsOver d.letters w × ¬ Accepts d w) in
        subst (λ ls. P ls c.next c.finals) (sym letters) (subst (λ ns. P d.letters ns c.finals) (sym next) (subst (λ fs. P d.letters d.next fs) (sym finals) (turned_language w)))
