-- The splits of a string, by how many pairs stand before the filling.
use Rattle.std.proofs.Common.{◌≡◌, ◌<◌, IsTrue, true, false, ◌+◌, ◌-◌, ◌↔◌, ◌⊎◌, ℕ, Bool, List, ◌∷◌, ◌++◌, Option, Some, None, length, take, drop, refl, sym, ap, subst, ◌∙◌, inl, inr, arith, append_assoc, length-append, take-append-drop, length-take-le}
use Rattle.std.specs.List.{slice_get}
use Rattle.std.specs.Option.{option_to_list}
use Rattle.std.proofs.lemmas.List.{take_at, drop_at, drop_more}
use Rattle.std.proofs.lemmas.Option.{slice_get_within, get_or_from_slice_get}
use Rattle.word_relations.proofs.Places.{slice_get-append_right}
use Rattle.fsm_base.specs.declared.letters.Pair.{Pair}
use Rattle.regex_ast.specs.declared.twolc.RuleKind.{RuleKind}
use Rattle.regex_ast.specs.declared.twolc.RuleKind.TheVariants.{Only, Must, Both, Never}
use Rattle.pair_test.specs.Splits.{IsBarred, NeedsContext}
use Rattle.pair_test.specs.Marks.{AreMarks, IsLeastFound, IsMarked, earliest}
use Rattle.pair_test.specs.Tests.{HoldsBy, HoldsRound, IsBadFor, IsBrokenBy}
use Rattle.pair_test.specs.declared.ready.RuleTest.{RuleTest}
use Rattle.pair_test.proofs.Finding.{bad_same, earliest_found, least_same}

module _ (t : RuleTest) (word : List Pair) where
  abbrev pub BadPair : ℕ → Type 0
  BadPair k = (x : Pair) × (slice_get word k ≡ Some x) × IsBadFor t (Some x) (HoldsRound t.contexts.items word 1 k)

  abbrev pub BadGap : ℕ → Type 0
  BadGap k = (k < length word + 1) × IsBadFor t None (HoldsRound t.contexts.items word 0 k)

  -- the parts of a string round a filling, by its place
  parts : (x z : List Pair) (filling : Option Pair) (k width : ℕ) → word ≡ x ++ (option_to_list filling ++ z) → k + 1 ≡ length x + 1 → width ≡ length (option_to_list filling)
      → HoldsBy t.contexts.items x z ↔ HoldsRound t.contexts.items word width k
  parts x z filling k width is at wide =
      let front : take k word ≡ x = ap (take k) is ∙ take_at x (option_to_list filling ++ z) k (omega (arith, at)) in
      let again : word ≡ (x ++ option_to_list filling) ++ z = is ∙ sym (append_assoc x (option_to_list filling) z) in
      let long : length (x ++ option_to_list filling) ≡ k + width = length-append x (option_to_list filling) ∙ omega (arith, at, wide) in
      let rest : drop (k + width) word ≡ z = ap (drop (k + width)) again ∙ drop_at (x ++ option_to_list filling) z (k + width) long in (
        λ h. subst (λ (u : List Pair). HoldsBy t.contexts.items u (drop (k + width) word)) (sym front) (subst (HoldsBy t.contexts.items x) (sym rest) h),
        λ h. subst (HoldsBy t.contexts.items x) rest (subst (λ (u : List Pair). HoldsBy t.contexts.items u (drop (k + width) word)) front h),
      )

  pub broken_there : (k : ℕ) → IsBrokenBy word t (k + 1) → BadPair k ⊎ BadGap k
  broken_there k (x, Some q, z, is, at, bad) =
      let here : slice_get word k ≡ Some q = ap (λ (u : List Pair). slice_get u k) is ∙ ap (λ n. slice_get (x ++ q ∷ z) n) (let e : k ≡ 0 + length x = omega (arith, at) in e) ∙ slice_get-append_right x (q ∷ z) 0 in
      inl (q, here, bad_same t (Some q) (HoldsBy t.contexts.items x z) (HoldsRound t.contexts.items word 1 k) (parts x z (Some q) k 1 is at refl) bad)
  broken_there k (x, None, z, is, at, bad) =
      let long : length word ≡ length x + length z = ap length is ∙ length-append x z in
      inr (omega (arith, at, long), bad_same t None (HoldsBy t.contexts.items x z) (HoldsRound t.contexts.items word 0 k) (parts x z None k 0 is at refl) bad)

  pub broken_back : (k : ℕ) → BadPair k ⊎ BadGap k → IsBrokenBy word t (k + 1)
  broken_back k h =
      elim h as (λ _. IsBrokenBy word t (k + 1)) [
        | inl (q, here, bad) ↦ at_pair q here bad
        | inr (within, bad) ↦ at_gap within bad
      ]
    where
      at_pair : (q : Pair) → slice_get word k ≡ Some q → IsBadFor t (Some q) (HoldsRound t.contexts.items word 1 k) → IsBrokenBy word t (k + 1)
      at_pair q here bad =
          let within : k < length word = slice_get_within word k q here in
          let rest : drop k word ≡ q ∷ drop (k + 1) word = drop_more word k q within ∙ ap (λ y. y ∷ drop (k + 1) word) (get_or_from_slice_get word k q q here) in
          let is : word ≡ take k word ++ (q ∷ drop (k + 1) word) = sym (take-append-drop k word) ∙ ap (λ z. take k word ++ z) rest in
          let at : k + 1 ≡ length (take k word) + 1 = ap (λ n. n + 1) (sym (length-take-le k word (omega (arith, within)))) in
          (take k word, Some q, drop (k + 1) word, is, at, bad)

      at_gap : k < length word + 1 → IsBadFor t None (HoldsRound t.contexts.items word 0 k) → IsBrokenBy word t (k + 1)
      at_gap within bad =
          let at : k + 1 ≡ length (take k word) + 1 = ap (λ n. n + 1) (sym (length-take-le k word (omega (arith, within)))) in
          let same : k + 0 ≡ k = omega arith in
          (take k word, None, drop (k + 0) word, sym (take-append-drop k word) ∙ ap (λ n. take k word ++ drop n word) (sym same), at, bad)

  -- the same by marks
  pub pair_marked : (holding : List Bool) → AreMarks (HoldsRound t.contexts.items word 1) (length word + 1 - 1) holding → (k : ℕ)
      → ((x : Pair) × (slice_get word k ≡ Some x) × IsBadFor t (Some x) (IsMarked holding k)) ↔ BadPair k
  pair_marked holding are k = (
    λ (x, here, bad). (x, here, bad_same t (Some x) (IsMarked holding k) (HoldsRound t.contexts.items word 1 k) (told x here) bad),
    λ (x, here, bad). (x, here, bad_same t (Some x) (HoldsRound t.contexts.items word 1 k) (IsMarked holding k) (let e = told x here in (e.1, e.0)) bad),
  )
    where
      told : (x : Pair) → slice_get word k ≡ Some x → IsMarked holding k ↔ HoldsRound t.contexts.items word 1 k
      told x here = are.each k (let within : k < length word = slice_get_within word k x here in omega (arith, within))

  pub gap_marked : (holding : List Bool) → AreMarks (HoldsRound t.contexts.items word 0) (length word + 1 - 0) holding → (k : ℕ)
      → ((k < length holding) × IsBadFor t None (IsMarked holding k)) ↔ BadGap k
  gap_marked holding are k = (
    λ (within, bad). let less : k < length word + 1 - 0 = subst (λ n. k < n) are.count within in
        (omega (arith, less), bad_same t None (IsMarked holding k) (HoldsRound t.contexts.items word 0 k) (are.each k less) bad),
    λ (within, bad). let less : k < length word + 1 - 0 = omega (arith, within) in
        let e = are.each k less in
        (subst (λ n. k < n) (sym are.count) less, bad_same t None (HoldsRound t.contexts.items word 0 k) (IsMarked holding k) (e.1, e.0) bad),
  )

  -- where the rule doesn't bar a gap, none is bad
  needs_none : (kind : RuleKind) (centre : Pair) → NeedsContext kind centre None → ⊥
  needs_none Only centre h = let e : None ≡ Some centre = h in cc
  needs_none Must centre h = h
  needs_none Both centre h = let e : None ≡ Some centre = h in cc
  needs_none Never centre h = h

  pub no_gap : (IsBarred (λ (x : Pair). x.up) (λ x. x.low) t.kind t.pair None → ⊥) → (k : ℕ) → BadGap k → ⊥
  no_gap free k (within, bad) =
      elim bad as (λ _. ⊥) [
        | inl h ↦ needs_none t.kind t.pair h.0
        | inr h ↦ free h.0
      ]

  -- the first place, found
  abbrev pub PairFound : List Bool → Option ℕ → Type 0
  PairFound holding found = IsLeastFound (λ k. (x : Pair) × (slice_get word k ≡ Some x) × IsBadFor t (Some x) (IsMarked holding k)) found

  abbrev pub GapFound : List Bool → Option ℕ → Type 0
  GapFound holding found = IsLeastFound (λ k. (k < length holding) × IsBadFor t None (IsMarked holding k)) found

  pub pair_alone : (over : List Bool) → AreMarks (HoldsRound t.contexts.items word 1) (length word + 1 - 1) over → (IsTrue false ↔ IsBarred (λ (x : Pair). x.up) (λ x. x.low) t.kind t.pair None) → (found : Option ℕ)
      → PairFound over found → IsLeastFound (λ k. IsBrokenBy word t (k + 1)) found
  pair_alone over are free found is =
      least_same (λ k. (x : Pair) × (slice_get word k ≡ Some x) × IsBadFor t (Some x) (IsMarked over k)) (λ k. IsBrokenBy word t (k + 1)) (λ k. (
        λ h. broken_back k (inl ((pair_marked over are k).0 h)),
        λ h. elim (broken_there k h) as (λ _. (x : Pair) × (slice_get word k ≡ Some x) × IsBadFor t (Some x) (IsMarked over k)) [
          | inl p ↦ (pair_marked over are k).1 p
          | inr g ↦ absurd (no_gap (λ barred. let clash : false ≡ true = free.1 barred in cc) k g)
        ],
      )) found is

  pub pair_or_gap : (over gaps : List Bool) → AreMarks (HoldsRound t.contexts.items word 1) (length word + 1 - 1) over → AreMarks (HoldsRound t.contexts.items word 0) (length word + 1 - 0) gaps → (a b : Option ℕ)
      → PairFound over a → GapFound gaps b → IsLeastFound (λ k. IsBrokenBy word t (k + 1)) (earliest a b)
  pair_or_gap over gaps are hold a b first second =
      earliest_found (λ k. (x : Pair) × (slice_get word k ≡ Some x) × IsBadFor t (Some x) (IsMarked over k)) (λ k. (k < length gaps) × IsBadFor t None (IsMarked gaps k)) (λ k. IsBrokenBy word t (k + 1)) (λ k. (
        λ h. elim (broken_there k h) as (λ _. ((x : Pair) × (slice_get word k ≡ Some x) × IsBadFor t (Some x) (IsMarked over k)) ⊎ ((k < length gaps) × IsBadFor t None (IsMarked gaps k))) [
          | inl p ↦ inl ((pair_marked over are k).1 p)
          | inr g ↦ inr ((gap_marked gaps hold k).1 g)
        ],
        λ h. broken_back k (elim h as (λ _. BadPair k ⊎ BadGap k) [
          | inl p ↦ inl ((pair_marked over are k).0 p)
          | inr g ↦ inr ((gap_marked gaps hold k).0 g)
        ]),
      )) a b first second
