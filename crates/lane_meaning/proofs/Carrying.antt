-- What a lane's output gets over some values is what it gets over others, where what answers a line at one value answers it at the
-- other that stands at its place.
use Rattle.std.proofs.Common.{◌≡◌, ◌++◌, ◌∷◌, [], ℕ, List, Option, length, refl, sym, ap, subst, arith}
use Rattle.std.specs.List.{AllZip}
use Rattle.reply_meaning.specs.declared.ending.Ending.{Ending}
use Rattle.lane_meaning.specs.Lanes.{Answers, HasLane, HasNumber, Place, beside, behind, start}
use Rattle.lane_meaning.proofs.Growing.{answered_by}

module _ {V W : Type 0} (P : V → W → Type 0) where
  as_long : (values : List V) (others : List W) → AllZip P values others → length others ≡ length values
  as_long [] [] pairs = refl
  as_long [] (other ∷ others) pairs = absurd pairs
  as_long (value ∷ values) [] pairs = absurd pairs
  as_long (value ∷ values) (other ∷ others) pairs = let rest = as_long values others pairs.1 in omega (arith, rest)

  -- what stands at the place of a value
  pub record Partner (front : List V) (value : V) (others : List W) : Type 0 where
    pub before : List W
    pub other : W
    pub after : List W
    pub others_are : others ≡ before ++ other ∷ after
    pub as_far : length before ≡ length front
    pub pair : P value other

  partner : (front : List V) (value : V) (back : List V) (others : List W) → AllZip P (front ++ value ∷ back) others → Partner front value others
  partner [] value back [] pairs = absurd pairs
  partner [] value back (other ∷ others) pairs = record { before = []; other = other; after = others; others_are = refl; as_far = refl; pair = pairs.0 }
  partner (first ∷ front) value back [] pairs = absurd pairs
  partner (first ∷ front) value back (other ∷ others) pairs =
      let rest = partner front value back others pairs.1 in
      record { before = other ∷ rest.before; other = rest.other; after = rest.after; others_are = ap (λ (l : List W). other ∷ l) rest.others_are; as_far = omega (arith, rest.as_far); pair = rest.pair }

  number_carries : (values : List V) (others : List W) → AllZip P values others → (number : ℕ) (value : V) → HasNumber values number value → (other : W) × HasNumber others number other × P value other
  number_carries values others pairs number value has =
      let p = partner has.front value has.back others (subst (λ (l : List V). AllZip P l others) has.values_are pairs) in
      (p.other, record { front = p.before; back = p.after; values_are = p.others_are; number_is = omega (arith, has.number_is, p.as_far) }, p.pair)

  module _ (Replies : V → Option (List ℕ) → List ℕ → Type 0) (Others : W → Option (List ℕ) → List ℕ → Type 0)
      (carries : (value : V) (other : W) → P value other → (line : Option (List ℕ)) (reply : List ℕ) → Replies value line reply → Others other line reply)
      (values : List V) (others : List W) (pairs : AllZip P values others) (entered : ℕ) where
    step_carries : (p : Place) (line : Option (List ℕ)) (reply : List ℕ) (q : Place) → Answers Replies values entered p line reply q → Answers Others others entered p line reply q
    step_carries (beside seen answered) line reply (beside number answers) a =
        let h = number_carries values others pairs number a.value a.has in
        record { value = h.0; unmarked = a.unmarked; later = a.later; counted = a.counted; entered_for = a.entered_for; has = h.1; lawful = carries a.value h.0 h.2 line reply a.lawful }
    step_carries (beside seen answered) line reply behind a = a
    step_carries behind line reply (beside number answers) a = absurd a
    step_carries behind line reply behind (value, has, lawful) =
        let h = number_carries values others pairs (length values) value has in
        (h.0, subst (λ (n : ℕ). HasNumber others n h.0) (sym (as_long values others pairs)) h.1, carries value h.0 h.2 line reply lawful)

    pub lane_carries : (budget : ℕ) (left0 left held0 held : Option (List ℕ)) (ending : Ending) → HasLane Replies values entered budget left0 left held0 held ending → HasLane Others others entered budget left0 left held0 held ending
    lane_carries budget left0 left held0 held ending a = answered_by (Answers Replies values entered) (Answers Others others entered) step_carries start budget 0 left0 left held0 held ending a
