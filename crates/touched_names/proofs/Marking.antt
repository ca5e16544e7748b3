-- Marks along an order in which each place stands behind those that it refers to.
use Rattle.std.proofs.Common.{◌≡◌, ◌≢◌, ◌↔◌, ℕ, ◌+◌, ◌<◌, ◌≤◌, Bool, true, false, List, [], ◌∷◌, ◌++◌, length, take, set, get_or, slice_get, AllPairs, Contains, Some, ◌⊎◌, inl, inr, sym, ap, subst, ◌∙◌, arith}
use Rattle.std.proofs.lemmas.Option.{slice_get-map, slice_get_within}
use Rattle.std.proofs.lemmas.List.Elements.{Contains-append_left, Contains-push, Contains-push_cases, Contains-get_or}
use Rattle.word_relations.proofs.Members.{Contains-nil_cases}
use Rattle.std.proofs.lemmas.Bool.{cases_lt}
use Rattle.std.proofs.lemmas.List.Quantifiers.{all_pairs_push}
use Rattle.word_relations.proofs.Places.{Contains-from_slice_get, slice_get_from_Contains, slice_get-set_same, slice_get-set_other, same_at}
use Rattle.std.proofs.lemmas.List.{length-map}
use Rattle.std.specs.Option.{option_map}
use Rattle.project_definitions.specs.Plain.{body_of}
use Rattle.project_definitions.specs.Referring.{body_places, references_of}
use Rattle.project_definitions.specs.declared.definition.Definition.{Definition}
use Rattle.name_order.specs.Orders.{IsOrder}
use Rattle.touched_names.proofs.Numbers.{front_place}
use Rattle.touched_names.specs.Places.{AreMarked, ArePlaces, HasMarked, IsMarked, TouchedPlace, by_itself, by_reference}

same_mark : (a b : Bool) → Some a ≡ Some b → a ≡ b
same_mark a b same = cc

-- the marks of the first places of the order are right
abbrev pub AreRight : List (List ℕ) → List Bool → List ℕ → ℕ → List Bool → Type 0
AreRight graph itself order i marks = (k place : ℕ) → k < i → slice_get order k ≡ Some place → IsMarked marks place ↔ TouchedPlace graph itself place

-- the place is touched by itself, or refers to a marked one
abbrev pub IsNext : List Bool → List ℕ → List Bool → ℕ → Type 0
IsNext itself refers marks place = IsMarked itself place ⊎ HasMarked marks refers

-- a mark that tells whether the place is so by itself, or refers to a marked place
pub decided : (itself marks : List Bool) (place : ℕ) (own mark : Bool) (refers others : List ℕ) → slice_get itself place ≡ Some own → refers ≡ others
    → (mark ≡ true ↔ ((own ≡ true) ⊎ HasMarked marks others)) → mark ≡ true ↔ IsNext itself refers marks place
decided itself marks place own mark refers others at same told = (
  λ yes. elim (told.0 yes) as (λ _. IsNext itself refers marks place) [
    | inl is ↦ inl (at ∙ ap (λ (b : Bool). Some b) is)
    | inr has ↦ inr (subst (HasMarked marks) (sym same) has)
  ],
  λ next. elim next as (λ _. mark ≡ true) [
    | inl is ↦ told.1 (inl (same_mark own true (sym at ∙ is)))
    | inr has ↦ told.1 (inr (subst (HasMarked marks) same has))
  ],
)

-- the places of an order are those of definitions
pub place_within : (definitions : List Definition) (order : List ℕ) → IsOrder (references_of definitions) order → (i : ℕ) → i < length order → get_or order i 0 < length definitions
place_within definitions order ordered i less =
    let within = (ordered.places (get_or order i 0)).0 (Contains-get_or order i 0 less) in
    let size = length-map definitions (λ (d : Definition). body_places (length definitions) (body_of d.body)) in
    omega (arith, within, size)

-- what a definition refers to
pub refers_at : (definitions : List Definition) (place : ℕ) (d : Definition) → slice_get definitions place ≡ Some d
    → slice_get (references_of definitions) place ≡ Some (body_places (length definitions) (body_of d.body))
refers_at definitions place d at =
    slice_get-map (λ (d : Definition). body_places (length definitions) (body_of d.body)) definitions place
    ∙ ap (option_map (λ (d : Definition). body_places (length definitions) (body_of d.body))) at

module _ (graph : List (List ℕ)) (itself : List Bool) (order : List ℕ) (ordered : IsOrder graph order) where
  pub place_inside : (i place : ℕ) → slice_get order i ≡ Some place → place < length graph
  place_inside i place at = (ordered.places place).0 (Contains-from_slice_get order i place at)

  right_none : (marks : List Bool) → AreRight graph itself order 0 marks
  right_none marks k place less at = absurd (omega arith)

  module _ (i place : ℕ) (at : slice_get order i ≡ Some place) (refers : List ℕ) (below : slice_get graph place ≡ Some refers) (marks : List Bool) (right : AreRight graph itself order i marks) where
    earlier : (other : ℕ) → Contains refers other → IsMarked marks other ↔ TouchedPlace graph itself other
    earlier other h =
        let found = slice_get_from_Contains (take i order) other (ordered.behind i place other at (refers, below, h)) in
        let front = front_place i order found.0 other found.1 in
        right found.0 other front.0 front.1

    touched_next : IsNext itself refers marks place → TouchedPlace graph itself place
    touched_next (inl marked) = by_itself marked
    touched_next (inr (other, h, marked)) = by_reference (refers, below, h) ((earlier other h).0 marked)

    next_touched : TouchedPlace graph itself place → IsNext itself refers marks place
    next_touched (by_itself marked) = inl marked
    next_touched (by_reference {other = other} (others, is, h) touched) =
        let both : Some others ≡ Some refers = sym is ∙ below in
        let same : others ≡ refers = cc in
        let here : Contains refers other = subst (λ (l : List ℕ). Contains l other) same h in
        inr (other, here, (earlier other here).1 touched)

    -- the next place gets its mark
    pub right_more : (mark : Bool) → (mark ≡ true ↔ IsNext itself refers marks place) → place < length marks → AreRight graph itself order (i + 1) (set marks place mark)
    right_more mark decides within k other less at_k = elim (cases_lt k i) [
      | inl before ↦
          let apart : other ≢ place = λ same. let here : k ≡ i = ordered.once k i other at_k (at ∙ ap Some (sym same)) in omega arith in
          let kept : slice_get (set marks place mark) other ≡ slice_get marks other = slice_get-set_other marks place other mark apart in
          let old = right k other before at_k in
          (λ h. old.0 (sym kept ∙ h), λ touched. kept ∙ old.1 touched)
      | inr behind ↦
          let here : k ≡ i = omega arith in
          let same : other ≡ place = same_at order i other place (ap (slice_get order) (sym here) ∙ at_k) at in
          let is : slice_get (set marks place mark) place ≡ Some mark = slice_get-set_same marks place mark within in
          subst (λ (p : ℕ). IsMarked (set marks place mark) p ↔ TouchedPlace graph itself p) (sym same)
          (λ h. touched_next (decides.0 (same_mark mark true (sym is ∙ h))), λ touched. is ∙ ap Some (decides.1 (next_touched touched)))
    ]

  -- when all places have theirs
  pub all_right : (marks : List Bool) → length marks ≡ length graph → length itself ≡ length graph → AreRight graph itself order (length order) marks → AreMarked marks (TouchedPlace graph itself)
  all_right marks many many_itself right place =
      (λ h. (right_at (marked_inside h)).0 h, λ touched. (right_at (touched_inside touched)).1 touched)
    where
      right_at : place < length graph → IsMarked marks place ↔ TouchedPlace graph itself place
      right_at less = let found = slice_get_from_Contains order place ((ordered.places place).1 less) in right found.0 place (slice_get_within order found.0 place found.1) found.1

      marked_inside : IsMarked marks place → place < length graph
      marked_inside h = let less : place < length marks = slice_get_within marks place true h in omega arith

      touched_inside : TouchedPlace graph itself place → place < length graph
      touched_inside (by_itself marked) = let less : place < length itself = slice_get_within itself place true marked in omega arith
      touched_inside (by_reference refers touched) = slice_get_within graph place refers.0 refers.1

-- ---- the places that are marked

-- those below a place
pub record AreBelow (marks : List Bool) (i : ℕ) (places : List ℕ) : Type 0 where
  pub within : (place : ℕ) → Contains places place ↔ ((place < i) × IsMarked marks place)
  pub ascending : AllPairs (λ one next. one < next) places

pub below_start : (marks : List Bool) → AreBelow marks 0 []
below_start marks = record {
  within = λ place. (λ h. absurd (Contains-nil_cases place h), λ h. let less = h.0 in absurd (omega arith));
  ascending = λ i j d before less. absurd (omega arith);
}

module _ (marks : List Bool) (i : ℕ) (places : List ℕ) (before : AreBelow marks i places) where
  pub below_plain : slice_get marks i ≡ Some false → AreBelow marks (i + 1) places
  below_plain at = record { within = λ place. (λ h. let it = (before.within place).0 h in let less = it.0 in (omega arith, it.1), λ h. (before.within place).1 (lower place h.0 h.1, h.1)); ascending = before.ascending }
    where
      lower : (place : ℕ) → place < i + 1 → IsMarked marks place → place < i
      lower place less marked = elim (cases_lt place i) [
        | inl under ↦ under
        | inr over ↦
            let same : place ≡ i = omega arith in
            let both : true ≡ false = same_at marks i true false (ap (slice_get marks) (sym same) ∙ marked) at in
            cc
      ]

  pub below_marked : slice_get marks i ≡ Some true → AreBelow marks (i + 1) (places ++ i ∷ [])
  below_marked at = record {
    within = λ place. (to place, back place);
    ascending = all_pairs_push (λ one next. one < next) places i before.ascending (λ k d less. ((before.within (get_or places k d)).0 (Contains-get_or places k d less)).0);
  }
    where
      to : (place : ℕ) → Contains (places ++ i ∷ []) place → (place < i + 1) × IsMarked marks place
      to place h = elim (Contains-push_cases places i place h) [
        | inl had ↦ let it = (before.within place).0 had in let less = it.0 in (omega arith, it.1)
        | inr same ↦ (omega (arith, same), ap (slice_get marks) (sym same) ∙ at)
      ]

      back : (place : ℕ) → (place < i + 1) × IsMarked marks place → Contains (places ++ i ∷ []) place
      back place h = elim (cases_lt place i) [
        | inl under ↦ Contains-append_left places (i ∷ []) place ((before.within place).1 (under, h.1))
        | inr over ↦
            let less = h.0 in
            let same : i ≡ place = omega arith in
            subst (λ (p : ℕ). Contains (places ++ i ∷ []) p) same (Contains-push places i)
      ]

pub below_to_end : (marks : List Bool) (i : ℕ) (places : List ℕ) → length marks ≤ i → AreBelow marks i places → ArePlaces (IsMarked marks) places
below_to_end marks i places ended below = record {
  all = λ place. (λ h. ((below.within place).0 h).1, λ h. (below.within place).1 (let less = slice_get_within marks place true h in omega (arith, less, ended), h));
  ascending = below.ascending;
}

-- the same of what the marks say
pub same_places : (P Q : ℕ → Type 0) (places : List ℕ) → ((place : ℕ) → P place ↔ Q place) → ArePlaces P places → ArePlaces Q places
same_places P Q places same p = record { all = λ place. (λ h. (same place).0 ((p.all place).0 h), λ h. (p.all place).1 ((same place).1 h)); ascending = p.ascending }
