-- Classes of states that were found by their places are classes of the states.
use Rattle.std.proofs.Common.{◌≡◌, ℕ, ◌<◌, ◌↔◌, List, Bool, true, Some, All, length, get_or, map, refl, sym, ap, subst, inl, inr, ◌∙◌}
use Rattle.std.specs.List.{Contains, slice_get, slice_index}
use Rattle.std.specs.Option.{option_map}
use Rattle.std.proofs.lemmas.List.{length-map}
use Rattle.std.proofs.lemmas.Option.{slice_get_within, slice_get-get_or, slice_get-map, slice_get_cases, get_or_from_slice_get, same_Some}
use Rattle.fsa.specs.declared.automaton.Edge.{Edge}
use Rattle.fsa_reduce.specs.Classes.{AreAlike}
use Rattle.fsa_reduce.specs.Merging.{AreWithinBoth, IsMoved}
use Rattle.fsa_reduce.specs.Orders.{IsOrder}

-- a place is one of the count
pub place_below : (count : ℕ) (places : List ℕ) → IsOrder count places → (s p : ℕ) → slice_get places s ≡ Some p → p < count
place_below count places order s p at =
    subst (λ v. v < count) (get_or_from_slice_get places s p 0 at) (order.within s 0 (slice_get_within places s p at))

-- states that stand at their places are in an order
pub order_from : (places states : List ℕ) → length places ≡ length states → slice_get places 0 ≡ Some 0
    → ((state place : ℕ) → slice_get places state ≡ Some place → slice_get states place ≡ Some state) → IsOrder (length states) places
order_from places states number start there = record {
  number = number;
  start = start;
  within = λ i d inside. slice_get_within states (get_or places i d) i (there i (get_or places i d) (slice_get-get_or places i d inside));
  distinct = λ i j p at_i at_j. same_Some i j (sym (there i p at_i) ∙ there j p at_j);
}

-- moved edges enter states below the count
pub moved_below : (count : ℕ) (places : List ℕ) (edges edges2 : List (Edge ℕ)) → IsOrder count places → ((f : Edge ℕ) → Contains edges2 f ↔ ((e : Edge ℕ) × Contains edges e × IsMoved places e f))
    → (f : Edge ℕ) → Contains edges2 f → f.to < count
moved_below count places edges edges2 order moves f among =
    let r = (moves f).0 among in
    place_below count places order r.0.to f.to r.2.2

module _ (classes places : List ℕ) (below : All (λ p. p < length classes) places) where
  -- the class of a state is that of its place
  pub class_there : (s p k : ℕ) → slice_get places s ≡ Some p → slice_get classes p ≡ Some k → slice_get (map (slice_index classes) places) s ≡ Some k
  class_there s p k at is = slice_get-map (slice_index classes) places s ∙ ap (option_map (slice_index classes)) at ∙ ap Some (get_or_from_slice_get classes p k 0 is)

  pub place_there : (s k : ℕ) → slice_get (map (slice_index classes) places) s ≡ Some k → (p : ℕ) × (slice_get places s ≡ Some p) × (slice_get classes p ≡ Some k)
  place_there s k at = elim ((slice_get_cases places s).1) [
    | inl p ↦
        let is : slice_index classes p.0 ≡ k = same_Some _ _ (sym (ap (option_map (slice_index classes)) p.2) ∙ sym (slice_get-map (slice_index classes) places s) ∙ at) in
        let inside : p.0 < length classes = subst (λ v. v < length classes) p.3 (below s p.0 p.1) in
        (p.0, p.2, slice_get-get_or classes p.0 0 inside ∙ ap Some is)
    | inr none ↦ let e = sym (slice_get-map (slice_index classes) places s ∙ ap (option_map (slice_index classes)) none.1) ∙ at in absurd cc
  ]

module _ (finals finals2 : List Bool) (edges edges2 : List (Edge ℕ)) (places classes : List ℕ) (count : ℕ)
    (order : IsOrder (length finals) places) (within : AreWithinBoth edges (length finals)) (number : length finals2 ≡ length finals)
    (final : (k : ℕ) → slice_get finals2 k ≡ Some true ↔ ((s : ℕ) × (slice_get places s ≡ Some k) × (slice_get finals s ≡ Some true)))
    (moves : (f : Edge ℕ) → Contains edges2 f ↔ ((e : Edge ℕ) × Contains edges e × IsMoved places e f))
    (alike : AreAlike finals2 edges2 classes count) where
  pub all_below : All (λ p. p < length classes) places
  all_below i d inside = subst (λ n. get_or places i d < n) (sym (alike.number ∙ number)) (order.within i d inside)

  pub start_there : slice_get classes 0 ≡ Some 0 → slice_get (map (slice_index classes) places) 0 ≡ Some 0
  start_there start = class_there classes places all_below 0 0 0 order.start start

  class_below : (s k : ℕ) → slice_get (map (slice_index classes) places) s ≡ Some k → k < count
  class_below s k at =
      let p = place_there classes places all_below s k at in
      subst (λ v. v < count) (get_or_from_slice_get classes p.0 k 0 p.2) (alike.within p.0 0 (slice_get_within classes p.0 k p.2))

  pub alike_by_place : AreAlike finals edges (map (slice_index classes) places) count
  alike_by_place = record {
    number = length-map places (slice_index classes) ∙ order.number;
    within = λ i d inside. class_below i (get_or (map (slice_index classes) places) i d) (slice_get-get_or (map (slice_index classes) places) i d inside);
    final = λ s t k at_s at_t is.
        let p = place_there classes places all_below s k at_s in
        let q = place_there classes places all_below t k at_t in
        let there = alike.final p.0 q.0 k p.2 q.2 ((final p.0).1 (s, p.1, is)) in
        let r = (final q.0).0 there in
        subst (λ state. slice_get finals state ≡ Some true) (order.distinct r.0 t q.0 r.1 q.1) r.2;
    step = λ e t k among at_e at_t.
        let p = place_there classes places all_below e.from k at_e in
        let q = place_there classes places all_below t k at_t in
        let inside : e.to < length places = subst (λ n. e.to < n) (sym order.number) (within e among).1 in
        let to = get_or places e.to 0 in
        let at_to = slice_get-get_or places e.to 0 inside in
        let moved : Edge ℕ = record { from = p.0; letter = e.letter; to = to } in
        let r = alike.step moved q.0 k ((moves moved).1 (e, among, (p.1, refl, at_to))) p.2 q.2 in
        let back = (moves r.0).0 r.2 in
        let f = back.0 in
        let from = order.distinct f.from t q.0 (back.2.0 ∙ ap Some r.3) q.1 in (
          f,
          r.1,
          back.1,
          from,
          sym back.2.1 ∙ r.4,
          class_there classes places all_below e.to to r.1 at_to r.5,
          class_there classes places all_below f.to r.0.to r.1 back.2.2 r.6,
        );
  }
