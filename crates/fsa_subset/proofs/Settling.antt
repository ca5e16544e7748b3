-- Sets of states: what epsilon edges add, and where the letters lead.
use Rattle.std.proofs.Common.{◌≡◌, ℕ, ◌+◌, ◌<◌, ◌≤◌, ◌↔◌, List, [], ◌∷◌, ◌++◌, Bool, Option, Some, None, IsPermutation, length, get_or, take, refl, subst, sym, ap, inl, inr, ◌∙◌}
use Rattle.std.specs.List.{Contains, flat_map}
use Rattle.std.proofs.lemmas.List.{take_more, take_all}
use Rattle.std.proofs.lemmas.List.Elements.{Contains-push_cases, Contains-push, Contains-append_left, Contains-append_right, Contains-append_cases, Contains-get_or}
use Rattle.std.proofs.lemmas.List.Sorted.{Contains-permutation, IsPermutation-sym}
use Rattle.word_relations.proofs.Members.{Contains-nil_cases, Contains-cons_cases, Contains-head, Contains-tail}
use Rattle.fsa.specs.declared.automaton.Edge.{Edge}
use Rattle.fsa_explore.specs.Marks.{Marks, IsBounded, Adds}
use Rattle.fsa_explore.specs.Reaches.{Reaches, IsReached, here}
use Rattle.fsa_explore.specs.Targets.{IsTarget, AreWithin}
use Rattle.fsa_explore.proofs.Closed.{Reaches-push}
use Rattle.fsa_subset.specs.Placed.{Goes}
use Rattle.fsa_explore.specs.Explored.{Numbered, AddsRow}
use Rattle.fsa_explore.proofs.Exploring.{AddsRow-weaker}
use Rattle.fsa_subset.specs.Sets.{Placed, IsStateSet, LeadsTo, IsSettled, AreMoves, IsTargetSet, from_letter, from_place}
use Rattle.fsa_subset.specs.declared.places.LetterIndex.{LetterIndex}

-- an edge is what it is made of
pub goes_from : {X : Type 0} (edges : List (Edge X)) (e : Edge X) (p q : ℕ) (o : Option X) → Contains edges e → e.from ≡ p → e.letter ≡ o → e.to ≡ q → Goes edges p o q
goes_from {X} edges e p q o held from letter to =
    let at : ℕ → Option X → ℕ → Type 0 = λ a b c. Contains edges (record { from = a; letter = b; to = c }) in
    subst (λ a. at a o q) from (subst (λ b. at e.from b q) letter (subst (λ c. at e.from e.letter c) to held))

-- the moves of one letter
from_letter_cases : (o : Option LetterIndex) (to : ℕ) (e : Edge LetterIndex) → Contains (from_letter o to) e → (e.letter ≡ None) × (o ≡ Some (record { 0 = e.from })) × (to ≡ e.to)
from_letter_cases None to e h = absurd (Contains-nil_cases e h)
from_letter_cases (Some p) to e h =
    let first : Edge LetterIndex = record { from = p.0; letter = None; to = to } in
    elim (Contains-cons_cases first [] e h) [
      | inl same ↦
          let place_is : p.0 ≡ e.from = ap (λ y. y.from) same in
          let as_place : ℕ → LetterIndex = λ k. record { 0 = k } in
          (sym (ap (λ y. y.letter) same), ap (λ k. Some (as_place k)) place_is, ap (λ y. y.to) same)
      | inr past ↦ absurd (Contains-nil_cases e past)
    ]

-- the moves of edges
from_place_cases : (edges : List (Edge LetterIndex)) (e : Edge LetterIndex) → Contains (flat_map from_place edges) e → (e.letter ≡ None) × ((p : ℕ) × Goes edges p (Some (record { 0 = e.from })) e.to)
from_place_cases [] e h = absurd (Contains-nil_cases e h)
from_place_cases (first ∷ edges) e h =
    elim (Contains-append_cases (from_letter first.letter first.to) (flat_map from_place edges) e h) [
      | inl held ↦
          let is = from_letter_cases first.letter first.to e held in
          (is.0, (first.from, goes_from (first ∷ edges) first first.from e.to (Some (record { 0 = e.from })) (Contains-head first edges) refl is.1 is.2))
      | inr rest ↦
          let t = from_place_cases edges e rest in
          (t.0, (t.1.0, Contains-tail first edges (record { from = t.1.0; letter = Some (record { 0 = e.from }); to = e.to }) t.1.1))
    ]

from_place_has : (edges : List (Edge LetterIndex)) (p place r : ℕ) → Goes edges p (Some (record { 0 = place })) r → Goes (flat_map from_place edges) place None r
from_place_has [] p place r h = absurd (Contains-nil_cases (record { from = p; letter = Some (record { 0 = place }); to = r }) h)
from_place_has (e ∷ edges) p place r h =
    let edge : Edge LetterIndex = record { from = p; letter = Some (record { 0 = place }); to = r } in
    let this : Edge LetterIndex = record { from = place; letter = None; to = r } in
    elim (Contains-cons_cases e edges edge h) [
      | inl same ↦
          let whole : Contains (flat_map from_place (edge ∷ edges)) this = Contains-append_left (this ∷ []) (flat_map from_place edges) this (Contains-head this []) in
          subst (λ y. Contains (flat_map from_place (y ∷ edges)) this) (sym same) whole
      | inr rest ↦ Contains-append_right (from_letter e.letter e.to) (flat_map from_place edges) this (from_place_has edges p place r rest)
    ]

-- the epsilon edge with these ends
epsilon_edge : (edges : List (Edge LetterIndex)) (e : Edge LetterIndex) → e.letter ≡ None → Goes edges e.from None e.to → Contains edges e
epsilon_edge edges e epsilon h = subst (λ o. Goes edges e.from o e.to) (sym epsilon) h

-- what one more state of the set adds to the moves
module _ (rows : List (Edge LetterIndex)) (set : List ℕ) where
  pub moves_none : AreMoves rows (take 0 set) []
  moves_none e = (λ h. absurd (Contains-nil_cases e h), λ h. absurd (Contains-nil_cases h.1.0 h.1.1))

  module _ (i p : ℕ) (inside : i < length set) (at : p ≡ get_or set i p) (out : List (Edge LetterIndex)) (leaves : (e : Edge LetterIndex) → Contains out e ↔ (Contains rows e × (e.from ≡ p))) (moves new : List (Edge LetterIndex)) (is : new ≡ moves ++ flat_map from_place out) (before : AreMoves rows (take i set) moves) where
    front : take (i + 1) set ≡ take i set ++ p ∷ []
    front = take_more set i p inside ∙ ap (λ y. take i set ++ y ∷ []) (sym at)

    pub moves_more : AreMoves rows (take (i + 1) set) new
    moves_more e = (
      λ h. elim (Contains-append_cases moves (flat_map from_place out) e (subst (λ ms. Contains ms e) is h)) [
        | inl old ↦
            let m = (before e).0 old in
            (m.0, (m.1.0, subst (λ ps. Contains ps m.1.0) (sym front) (Contains-append_left (take i set) (p ∷ []) m.1.0 m.1.1), m.1.2))
        | inr fresh ↦
            let g = from_place_cases out e fresh in
            let q : ℕ = g.1.0 in
            let l = (leaves (record { from = q; letter = Some (record { 0 = e.from }); to = e.to })).0 g.1.1 in
            let from : q ≡ p = l.1 in
            (g.0, (q, subst (λ ps. Contains ps q) (sym front) (subst (λ k. Contains (take i set ++ p ∷ []) k) (sym from) (Contains-push (take i set) p)), l.0))
      ],
      λ m. subst (λ ms. Contains ms e) (sym is) (elim (Contains-push_cases (take i set) p m.1.0 (subst (λ ps. Contains ps m.1.0) front m.1.1)) [
        | inl old ↦ Contains-append_left moves (flat_map from_place out) e ((before e).1 (m.0, (m.1.0, old, m.1.2)))
        | inr same ↦
            let edge : Edge LetterIndex = record { from = m.1.0; letter = Some (record { 0 = e.from }); to = e.to } in
            let held : Contains out edge = (leaves edge).1 (m.1.2, sym same) in
            Contains-append_right moves (flat_map from_place out) e (epsilon_edge (flat_map from_place out) e m.0 (from_place_has out m.1.0 e.from e.to held))
      ]),
    )

  -- when each state was looked at
  pub moves_all : (i : ℕ) (moves : List (Edge LetterIndex)) → length set ≤ i → AreMoves rows (take i set) moves → AreMoves rows set moves
  moves_all i moves past = subst (λ ps. AreMoves rows ps moves) (take_all i set past)

  -- the same moves in another order
  pub moves_sorted : (moves sorted : List (Edge LetterIndex)) → IsPermutation moves sorted → AreMoves rows set moves → AreMoves rows set sorted
  moves_sorted moves sorted same are e = (
    λ h. (are e).0 (Contains-permutation sorted moves e (IsPermutation-sym moves sorted same) h),
    λ h. Contains-permutation moves sorted e same ((are e).1 h),
  )

  -- moves enter states that are there
  pub moves_within : (moves : List (Edge LetterIndex)) (bound : ℕ) → AreMoves rows set moves → AreWithin rows bound → AreWithin moves bound
  moves_within moves bound is within e h =
      let m = (is e).0 h in
      within (record { from = m.1.0; letter = Some (record { 0 = e.from }); to = e.to }) m.1.2

-- a closed set, as a sorted list
module _ (rows : List (Edge LetterIndex)) (old new : Marks) (adds : Adds old new (IsReached rows old.found)) (bounded : IsBounded new) (set : List ℕ) (same : IsPermutation new.found set) where
  pub settled_set : (q : ℕ) → Contains set q ↔ IsReached rows old.found q
  settled_set q = (
    λ h. elim (adds.grows.only q (Contains-permutation set new.found q (IsPermutation-sym new.found set same) h)) [
      | inl there ↦ (q, there, here)
      | inr r ↦ r
    ],
    λ r. Contains-permutation new.found set q same (adds.all q r),
  )

  pub settled_closed : (p q : ℕ) → Contains set p → Goes rows p None q → Contains set q
  settled_closed p q held edge =
      let r = (settled_set p).0 held in
      (settled_set q).1 (r.0, r.1, Reaches-push rows q r.2 edge)

  pub settled_within : (i d : ℕ) → i < length set → get_or set i d < old.bound
  settled_within i d l =
      let k : ℕ = get_or set i d in
      let back = Contains-permutation set new.found k (IsPermutation-sym new.found set same) (Contains-get_or set i d l) in
      let inside : k < new.bound = subst (λ j. j < new.bound) back.2 (bounded.within back.0 k back.1) in
      subst (λ b. k < b) adds.grows.bound inside

  pub settled_is : IsSettled rows old.bound set
  settled_is = record { closed = settled_closed; within = settled_within }

-- the set that one letter leads to, by what the targets and their closure add
pub target_set_is : (rows out : List (Edge LetterIndex)) (start targets : Marks) → start.found ≡ [] → Adds start targets (IsTarget out None) → (set : List ℕ) → ((q : ℕ) → Contains set q ↔ IsReached rows targets.found q) → (q : ℕ) → Contains set q ↔ ((r : ℕ) × IsTarget out None r × Reaches rows r q)
target_set_is rows out start targets none adds set is q = (
  λ h.
      let r = (is q).0 h in
      elim (adds.grows.only r.0 r.1) [
        | inl old ↦ absurd (Contains-nil_cases r.0 (subst (λ ks. Contains ks r.0) none old))
        | inr t ↦ (r.0, t, r.2)
      ],
  λ t. (is q).1 (t.0, adds.all t.0 t.1, t.2),
)

-- one more letter
pub target_of : (rows moves out : List (Edge LetterIndex)) (place : ℕ) → ((e : Edge LetterIndex) → Contains out e ↔ (Contains moves e × (e.from ≡ place))) → (set : List ℕ) → ((q : ℕ) → Contains set q ↔ ((r : ℕ) × IsTarget out None r × Reaches rows r q)) → IsTargetSet rows moves place set
target_of rows moves out place leaves set is q = (
  λ h.
      let t = (is q).0 h in
      let r : ℕ = t.0 in
      let e : Edge LetterIndex = t.1.0 in
      let l = (leaves e).0 t.1.1 in
      (r, goes_from moves e place r None l.0 l.1 t.1.2 t.1.3, t.2),
  λ g.
      let e : Edge LetterIndex = record { from = place; letter = None; to = g.0 } in
      (is q).1 (g.0, (e, (leaves e).1 (g.1, refl), refl, refl), g.2),
)

-- a row by the moves is a row of the subset construction
pub row_of_sets : (m : Placed) (rows : List (Edge LetterIndex)) (finals : List Bool) (letters bound : ℕ) (moves : List (Edge LetterIndex)) (set : List ℕ) (found new : Numbered) → record { edges = rows; finals = finals; letters = letters } ≡ m → bound ≡ length finals → AreMoves rows set moves → AddsRow (IsSettled rows bound) (IsTargetSet rows moves) letters found new → AddsRow (IsStateSet m) (LeadsTo m set) m.letters found new
row_of_sets m rows finals letters bound moves set found new view is_bound are row =
    let of : Placed = record { edges = rows; finals = finals; letters = letters } in
    let whole : AddsRow (IsStateSet of) (LeadsTo of set) letters found new =
    AddsRow-weaker (IsSettled rows bound) (IsStateSet of) (IsTargetSet rows moves) (LeadsTo of set) letters found new
    (λ list is. subst (λ n. IsSettled rows n list) is_bound is)
    (λ place to is q. (
      λ h. let t = (is q).0 h in (t.0, ((are (record { from = place; letter = None; to = t.0 })).0 t.1).1, t.2),
      λ t. (is q).1 (t.0, (are (record { from = place; letter = None; to = t.0 })).1 (refl, t.1), t.2),
    )) row in
    subst (λ v. AddsRow (IsStateSet v) (LeadsTo v set) v.letters found new) view whole

-- the set of the start alone and what epsilon edges reach from it
pub start_is : (rows : List (Edge LetterIndex)) (old new : Marks) → old.found ≡ [] → Adds old new (λ k. k ≡ 0) → (set : List ℕ) → ((q : ℕ) → Contains set q ↔ IsReached rows new.found q) → (q : ℕ) → Contains set q ↔ Reaches rows 0 q
start_is rows old new none adds set is q = (
  λ h.
      let r = (is q).0 h in
      elim (adds.grows.only r.0 r.1) [
        | inl there ↦ absurd (Contains-nil_cases r.0 (subst (λ ks. Contains ks r.0) none there))
        | inr zero_is ↦ subst (λ k. Reaches rows k q) zero_is r.2
      ],
  λ path. (is q).1 (0, adds.all 0 refl, path),
)
