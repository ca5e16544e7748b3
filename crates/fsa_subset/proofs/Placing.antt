-- Edges whose letters are replaced by their places.
use Rattle.std.proofs.Common.{◌≡◌, ℕ, ◌<◌, ◌≤◌, List, Option, Some, None, IsPermutation, length, map, take, refl, subst, sym, ap, ◌∙◌}
use Rattle.std.specs.List.{slice_get, Contains}
use Rattle.std.specs.Option.{option_and_then}
use Rattle.std.proofs.lemmas.Option.{slice_get_within, same_Some, none-some}
use Rattle.std.proofs.lemmas.List.{take_all}
use Rattle.std.proofs.lemmas.List.Sorted.{Contains-permutation, IsPermutation-sym}
use Rattle.word_relations.proofs.Members.{Contains-map, Contains-map_cases}
use Rattle.word_relations.proofs.Places.{slice_get_from_Contains}
use Rattle.fsa.specs.declared.automaton.Edge.{Edge}
use Rattle.fsa_explore.specs.Targets.{AreWithin}
use Rattle.fsa_subset.specs.Placed.{Goes, IsPlaced, FindsPlaces, at_place}
use Rattle.fsa_subset.specs.declared.places.LetterIndex.{LetterIndex}

module _ {L : Type 0} (letters : List L) (find : L → Option LetterIndex) (finds : FindsPlaces letters (length letters) find) (edges : List (Edge L)) (all : (e : Edge L) (x : L) → Contains edges e → e.letter ≡ Some x → Contains letters x) where
  -- the letter of an edge, by what is found for it
  letter_of : (e : Edge L) → Contains edges e → (o : Option L) → e.letter ≡ o → (k : ℕ) → option_and_then find o ≡ Some (record { 0 = k }) → (x : L) × (slice_get letters k ≡ Some x) × (e.letter ≡ Some x)
  letter_of e held None is k found = let place : LetterIndex = record { 0 = k } in absurd (none-some place found)
  letter_of e held (Some x) is k found =
      let place = slice_get_from_Contains letters x (all e x held is) in
      let j : ℕ = place.0 in
      let at : slice_get letters j ≡ Some x = place.1 in
      let same : Some (record { 0 = j }) ≡ Some (record { 0 = k }) = sym (finds j x (slice_get_within letters j x at) at) ∙ found in
      let j_is : j ≡ k = ap (λ p. p.0) (same_Some (record { 0 = j }) (record { 0 = k }) same) in
      (x, subst (λ i. slice_get letters i ≡ Some x) j_is at, is)

  no_letter : (e : Edge L) → Contains edges e → (o : Option L) → e.letter ≡ o → option_and_then find o ≡ None → e.letter ≡ None
  no_letter e held None is found = is
  no_letter e held (Some x) is found =
      let place = slice_get_from_Contains letters x (all e x held is) in
      let there : find x ≡ Some (record { 0 = place.0 }) = finds place.0 x (slice_get_within letters place.0 x place.1) place.1 in
      let nothing : find x ≡ None = found in
      absurd (cc)

  edge_at : (e : Edge L) (p q : ℕ) (o : Option L) → Contains edges e → e.from ≡ p → e.letter ≡ o → e.to ≡ q → Goes edges p o q
  edge_at e p q o held from letter to =
      let at : ℕ → Option L → ℕ → Type 0 = λ a b c. Contains edges (record { from = a; letter = b; to = c }) in
      subst (λ a. at a o q) from (subst (λ b. at e.from b q) letter (subst (λ c. at e.from e.letter c) to held))

  placed_only : (p k q : ℕ) → Goes (map (at_place find) edges) p (Some (record { 0 = k })) q → (x : L) × (slice_get letters k ≡ Some x) × Goes edges p (Some x) q
  placed_only p k q h =
      let r = Contains-map_cases (at_place find) edges (record { from = p; letter = Some (record { 0 = k }); to = q }) h in
      let e : Edge L = r.0 in
      let l = letter_of e r.1 e.letter refl k (ap (λ y. y.letter) r.2) in
      (l.0, l.1, edge_at e p q (Some l.0) r.1 (ap (λ y. y.from) r.2) l.2 (ap (λ y. y.to) r.2))

  placed_all : (p k q : ℕ) (x : L) → slice_get letters k ≡ Some x → Goes edges p (Some x) q → Goes (map (at_place find) edges) p (Some (record { 0 = k })) q
  placed_all p k q x at h =
      subst (λ o. Goes (map (at_place find) edges) p o q) (finds k x (slice_get_within letters k x at) at)
      (Contains-map (at_place find) edges (record { from = p; letter = Some x; to = q }) h)

  pub map_placed : IsPlaced letters edges (map (at_place find) edges)
  map_placed = record {
    only = placed_only;
    all = placed_all;
    epsilon = λ p q. (
      λ h.
          let r = Contains-map_cases (at_place find) edges (record { from = p; letter = None; to = q }) h in
          let e : Edge L = r.0 in
          edge_at e p q None r.1 (ap (λ y. y.from) r.2) (no_letter e r.1 e.letter refl (ap (λ y. y.letter) r.2)) (ap (λ y. y.to) r.2),
      λ h. Contains-map (at_place find) edges (record { from = p; letter = None; to = q }) h,
    );
  }

  -- what the loop over the edges leaves
  pub loop_placed : (placed : List (Edge LetterIndex)) (i : ℕ) → length edges ≤ i → placed ≡ map (at_place find) (take i edges) → IsPlaced letters edges placed
  loop_placed placed i past is = subst (IsPlaced letters edges) (sym (is ∙ ap (map (at_place find)) (take_all i edges past))) map_placed

-- the same edges in another order
pub IsPlaced-permutation : {L : Type 0} (letters : List L) (edges : List (Edge L)) (placed sorted : List (Edge LetterIndex)) → IsPermutation placed sorted → IsPlaced letters edges placed → IsPlaced letters edges sorted
IsPlaced-permutation letters edges placed sorted same is =
    let there : (e : Edge LetterIndex) → Contains placed e → Contains sorted e = λ e. Contains-permutation placed sorted e same in
    let back : (e : Edge LetterIndex) → Contains sorted e → Contains placed e = λ e. Contains-permutation sorted placed e (IsPermutation-sym placed sorted same) in
    record {
      only = λ p k q h. is.only p k q (back (record { from = p; letter = Some (record { 0 = k }); to = q }) h);
      all = λ p k q x at h. there (record { from = p; letter = Some (record { 0 = k }); to = q }) (is.all p k q x at h);
      epsilon = λ p q. (
        λ h. (is.epsilon p q).0 (back (record { from = p; letter = None; to = q }) h),
        λ h. there (record { from = p; letter = None; to = q }) ((is.epsilon p q).1 h),
      );
    }

-- the edges enter the same states
pub placed_within : {L : Type 0} (letters : List L) (edges : List (Edge L)) (placed : List (Edge LetterIndex)) (bound : ℕ) → IsPlaced letters edges placed → ((e : Edge L) → Contains edges e → e.to < bound) → AreWithin placed bound
placed_within {L} letters edges placed bound is within e h = go e.letter h
  where
    go : (o : Option LetterIndex) → Goes placed e.from o e.to → e.to < bound
    go None held = within (record { from = e.from; letter = None; to = e.to }) ((is.epsilon e.from e.to).0 held)
    go (Some p) held = let r = is.only e.from p.0 e.to held in within (record { from = e.from; letter = Some r.0; to = e.to }) r.2
