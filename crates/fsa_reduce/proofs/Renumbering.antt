-- Classes of the states from the last one back, as numbers of the states from the start on.
use Rattle.std.proofs.Common.{◌≡◌, ◌≢◌, ℕ, ◌-◌, ◌<◌, ◌≤◌, ◌⊎◌, ◌↔◌, List, Bool, Some, length, get_or, map, reverse, sym, ap, subst, inl, inr, arith, ◌∙◌}
use Rattle.std.specs.List.{Contains, slice_get, slice_index}
use Rattle.std.specs.Option.{option_map}
use Rattle.std.proofs.lemmas.Bool.{cases_eq}
use Rattle.std.proofs.lemmas.Bool.Decides.{nat_tests}
use Rattle.std.proofs.lemmas.List.{length-map, length-reverse, get_or-reverse}
use Rattle.std.proofs.lemmas.Option.{slice_get_within, slice_get-get_or, slice_get-map, get_or_from_slice_get, same_Some}
use Rattle.fsa.specs.declared.automaton.Edge.{Edge}
use Rattle.fsa_reduce.specs.Classes.{IsIn, AreClasses, AreAlike, renumbered}

abbrev Turned : ℕ → ℕ → ℕ → Type 0
Turned start last c =
    ((c ≡ start) × (renumbered start last c ≡ 0)) ⊎ (
    ((c ≢ start) × (c ≡ last) × (renumbered start last c ≡ last - start)) ⊎
    ((c ≢ start) × (c ≢ last) × (renumbered start last c ≡ last - c))
    )

turned_cases : (start last c : ℕ) → Turned start last c
turned_cases start last c = elim (cases_eq c start) [
  | inl same ↦ inl (same, grind (arith, nat_tests))
  | inr other ↦ elim (cases_eq c last) [
    | inl same ↦ inr (inl (other, same, grind (arith, nat_tests)))
    | inr ne ↦ inr (inr (other, ne, grind (arith, nat_tests)))
  ]
]

turned_once : (start last c d : ℕ) → start ≤ last → c ≤ last → d ≤ last → renumbered start last c ≡ renumbered start last d → c ≡ d
turned_once start last c d s l m e = elim (turned_cases start last c) [
  | inl a ↦ elim (turned_cases start last d) [
    | inl b ↦ omega (arith, a.0, b.0)
    | inr b ↦ elim b [
      | inl x ↦ omega (arith, a.1, x.0, x.1, x.2, e)
      | inr x ↦ omega (arith, a.1, x.0, x.1, x.2, e)
    ]
  ]
  | inr a ↦ elim a [
    | inl y ↦ elim (turned_cases start last d) [
      | inl b ↦ omega (arith, b.1, y.0, y.1, y.2, e)
      | inr b ↦ elim b [
        | inl x ↦ omega (arith, x.1, y.1)
        | inr x ↦ omega (arith, x.0, x.1, x.2, y.0, y.1, y.2, e)
      ]
    ]
    | inr y ↦ elim (turned_cases start last d) [
      | inl b ↦ omega (arith, b.1, y.0, y.1, y.2, e)
      | inr b ↦ elim b [
        | inl x ↦ omega (arith, x.0, x.1, x.2, y.0, y.1, y.2, e)
        | inr x ↦ omega (arith, x.0, x.1, x.2, y.0, y.1, y.2, e)
      ]
    ]
  ]
]

turned_within : (start last c : ℕ) → c ≤ last → renumbered start last c ≤ last
turned_within start last c l = elim (turned_cases start last c) [
  | inl a ↦ omega (arith, a.1)
  | inr a ↦ elim a [
    | inl x ↦ omega (arith, x.2)
    | inr x ↦ omega (arith, x.2)
  ]
]

turned_start : (start last : ℕ) → renumbered start last start ≡ 0
turned_start start last = grind (arith, nat_tests)

module _ (finals : List Bool) (rows : List (Edge ℕ)) (classes numbers : List ℕ) (count : ℕ) (some : 0 < length finals) (found : AreClasses finals rows classes count) (is : numbers ≡ map (renumbered (slice_index classes (length classes - 1)) (count - 1)) (reverse classes)) where
  abbrev turn : ℕ → ℕ
  turn c = renumbered (slice_index classes (length classes - 1)) (count - 1) c

  -- a state in a class has its number
  number_at : (s c : ℕ) → IsIn classes (length finals) s c → slice_get numbers s ≡ Some (turn c)
  number_at s c i =
      let same = found.number in
      let inside = i.0 in
      let l : s < length classes = omega arith in
      let long = length-reverse classes in
      let m : s < length (reverse classes) = omega arith in
      let place : slice_get classes (length classes - 1 - s) ≡ Some c = subst (λ n. slice_get classes (n - 1 - s) ≡ Some c) (sym same) i.1 in
      let back : get_or (reverse classes) s 0 ≡ c = get_or-reverse classes s 0 l ∙ get_or_from_slice_get classes (length classes - 1 - s) c 0 place in
      subst (λ xs. slice_get xs s ≡ Some (turn c)) (sym is)
      (slice_get-map turn (reverse classes) s ∙ ap (option_map turn) (slice_get-get_or (reverse classes) s 0 m ∙ ap Some back))

  number_within : length numbers ≡ length finals
  number_within =
      ap length is ∙ length-map (reverse classes) turn ∙ length-reverse classes ∙ found.number

  -- and a state has the number of its class alone
  class_at : (s k : ℕ) → slice_get numbers s ≡ Some k → (c : ℕ) × IsIn classes (length finals) s c × (k ≡ turn c)
  class_at s k at =
      let within = slice_get_within numbers s k at in
      let n = number_within in
      let same = found.number in
      let inside : s < length finals = omega arith in
      let place : length finals - 1 - s < length classes = omega arith in
      let c = get_or classes (length finals - 1 - s) 0 in
      let i : IsIn classes (length finals) s c = (inside, slice_get-get_or classes (length finals - 1 - s) 0 place) in
      (c, i, same_Some k (turn c) (sym at ∙ number_at s c i))

  below : (s c : ℕ) → IsIn classes (length finals) s c → c < count
  below s c i =
      let k = length finals - 1 - s in
      let e : get_or classes k 0 ≡ c = get_or_from_slice_get classes k c 0 i.1 in
      subst (λ x. x < count) e (found.within k 0 (slice_get_within classes k c i.1))

  start_in : IsIn classes (length finals) 0 (slice_index classes (length classes - 1))
  start_in =
      let same = found.number in
      let last : length classes - 1 < length classes = omega arith in
      let place : length finals - 1 - 0 ≡ length classes - 1 = omega arith in
      (some, ap (slice_get classes) place ∙ slice_get-get_or classes (length classes - 1) 0 last)

  same_class : (s t k : ℕ) → slice_get numbers s ≡ Some k → slice_get numbers t ≡ Some k → (c : ℕ) × IsIn classes (length finals) s c × IsIn classes (length finals) t c
  same_class s t k a b =
      let i = class_at s k a in
      let j = class_at t k b in
      let low = below s i.0 i.1 in
      let mid = below t j.0 j.1 in
      let top = below 0 (slice_index classes (length classes - 1)) start_in in
      let same : j.0 ≡ i.0 = turned_once (slice_index classes (length classes - 1)) (count - 1) j.0 i.0 (omega arith) (omega arith) (omega arith) (sym j.2 ∙ i.2) in
      (i.0, i.1, subst (λ c. IsIn classes (length finals) t c) same j.1)

  pub renumbered_start : slice_get numbers 0 ≡ Some 0
  renumbered_start = number_at 0 (slice_index classes (length classes - 1)) start_in ∙ ap Some (turned_start (slice_index classes (length classes - 1)) (count - 1))

  pub renumbered_alike : AreAlike finals rows numbers count
  renumbered_alike = record {
    number = number_within;
    within = λ k d l.
        let at = slice_get-get_or numbers k d l in
        let i = class_at k (get_or numbers k d) at in
        let low = below k i.0 i.1 in
        let is_number = i.2 in
        let bound = turned_within (slice_index classes (length classes - 1)) (count - 1) i.0 (omega arith) in
        omega arith;
    final = λ s t k a b f. let r = same_class s t k a b in found.final s t r.0 r.1 r.2 f;
    step = λ e t k h a b.
        let r = same_class e.from t k a b in
        let g = found.step e t r.0 h r.1 r.2 in
        (g.0, turn g.1, g.2, g.3, g.4, number_at e.to g.1 g.5, number_at g.0.to g.1 g.6);
  }

-- the same for edges in another order
pub alike_elements : (finals : List Bool) (rows edges : List (Edge ℕ)) (numbers : List ℕ) (count : ℕ) → ((e : Edge ℕ) → Contains rows e ↔ Contains edges e) → AreAlike finals rows numbers count → AreAlike finals edges numbers count
alike_elements finals rows edges numbers count same h = record {
  number = h.number;
  within = h.within;
  final = h.final;
  step = λ e t k c a b. let r = h.step e t k ((same e).1 c) a b in (r.0, r.1, (same r.0).0 r.2, r.3, r.4, r.5, r.6);
}
