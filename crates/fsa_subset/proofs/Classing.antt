-- Edges that carry classes of letters: the sets of states that they lead to are those of the letters.
use Rattle.std.proofs.Common.{◌≡◌, ℕ, zero, suc, ◌+◌, ◌<◌, ◌≤◌, ◌↔◌, List, [], ◌∷◌, ◌++◌, Bool, Option, Some, None, IsPermutation, filter, length, take, refl, subst, sym, ap, inl, inr, arith, ◌∙◌}
use Rattle.std.specs.List.{Contains, flat_map, slice_get}
use Rattle.std.proofs.lemmas.List.{take_all}
use Rattle.std.proofs.lemmas.List.Elements.{Contains-append_left, Contains-append_right, Contains-append_cases}
use Rattle.std.proofs.lemmas.List.Sorted.{Contains-permutation, IsPermutation-sym}
use Rattle.std.proofs.lemmas.Option.{slice_get_within, same_Some}
use Rattle.word_relations.proofs.Members.{Contains-nil_cases, Contains-cons_cases, Contains-head, Contains-tail}
use Rattle.word_relations.proofs.Places.{slice_get-append_left, slice_get-append_cases, slice_get-push, same_at}
use Rattle.fsa.specs.declared.automaton.Edge.{Edge}
use Rattle.fsa_explore.specs.Alike.{AreAlike, ByClass, GoAlike}
use Rattle.fsa_explore.specs.Explored.{IsExplored}
use Rattle.fsa_explore.specs.Reaches.{Reaches, here, along}
use Rattle.fsa_explore.specs.Epsilon.{is_epsilon}
use Rattle.fsa_explore.specs.Targets.{AreWithin}
use Rattle.fsa_explore.proofs.EpsilonEdges.{epsilon_is}
use Rattle.fsa_explore.proofs.Spreading.{explored_weaker}
use Rattle.fsa_subset.specs.Placed.{Goes}
use Rattle.fsa_subset.specs.Classes.{IsByClass, IsByLetter, at_class, back, by_letter, turned}
use Rattle.fsa_subset.specs.Sets.{Placed, IsStateSet, LeadsTo, IsFinalSet, IsMove, IsBuiltByClass, IsSubsetBuilt}
use Rattle.fsa_subset.specs.declared.places.LetterIndex.{LetterIndex}
use Rattle.fsa_subset.proofs.Settling.{goes_from}

abbrev at_place : ℕ → LetterIndex
at_place k = record { 0 = k }

-- what stands in the lists of elements
flat_has : {X Y : Type 0} (f : X → List Y) (xs : List X) (x : X) (y : Y) → Contains xs x → Contains (f x) y → Contains (flat_map f xs) y
flat_has f [] x y h there = absurd (Contains-nil_cases x h)
flat_has f (z ∷ xs) x y h there =
    elim (Contains-cons_cases z xs x h) as (λ _. Contains (f z ++ flat_map f xs) y) [
      | inl same ↦ Contains-append_left (f z) (flat_map f xs) y (subst (λ v. Contains (f v) y) (sym same) there)
      | inr more ↦ Contains-append_right (f z) (flat_map f xs) y (flat_has f xs x y more there)
    ]

flat_cases : {X Y : Type 0} (f : X → List Y) (xs : List X) (y : Y) → Contains (flat_map f xs) y → (x : X) × Contains xs x × Contains (f x) y
flat_cases f [] y h = absurd (Contains-nil_cases y h)
flat_cases f (x ∷ xs) y h =
    elim (Contains-append_cases (f x) (flat_map f xs) y h) [
      | inl first ↦ (x, Contains-head x xs, first)
      | inr rest ↦ let r = flat_cases f xs y rest in (r.0, Contains-tail x xs r.0 r.1, r.2)
    ]

one_cases : {X : Type 0} (x y : X) → Contains (x ∷ []) y → x ≡ y
one_cases x y h = elim (Contains-cons_cases x [] y h) [ inl same ↦ same | inr past ↦ absurd (Contains-nil_cases y past) ]

turned_cases : (from : ℕ) (o : Option LetterIndex) (to : ℕ) (f : Edge ℕ) → Contains (turned from o to) f → (o ≡ Some (at_place f.from)) × (f.letter ≡ Some from) × (to ≡ f.to)
turned_cases from None to f h = absurd (Contains-nil_cases f h)
turned_cases from (Some p) to f h =
    let same = one_cases (record { from = p.0; letter = Some from; to = to }) f h in
    (ap (λ e. Some (at_place e.from)) same, sym (ap (λ e. e.letter) same), ap (λ e. e.to) same)

-- the edges by their letters
pub by_letter_is : (edges : List (Edge LetterIndex)) (listed rows : List (Edge ℕ)) → listed ≡ flat_map by_letter edges → IsPermutation listed rows → IsByLetter edges rows
by_letter_is edges listed rows is moved place to from = (
  λ h.
      let e : Edge ℕ = record { from = place; letter = from; to = to } in
      let there = Contains-permutation rows listed e (IsPermutation-sym listed rows moved) h in
      let r = flat_cases by_letter edges e (subst (λ es. Contains es e) is there) in
      let t = turned_cases r.0.from r.0.letter r.0.to e r.2 in
      (r.0.from, t.1, goes_from edges r.0 r.0.from to (Some (at_place place)) r.1 refl t.0 t.2),
  λ (p, is_from, h).
      let e : Edge ℕ = record { from = place; letter = Some p; to = to } in
      let there : Contains listed e = subst (λ es. Contains es e) (sym is) (flat_has by_letter edges (record { from = p; letter = Some (at_place place); to = to }) e h (Contains-head e [])) in
      subst (λ o. Goes rows place o to) (sym is_from) (Contains-permutation listed rows e moved there),
)

back_cases : (class : ℕ) (o : Option ℕ) (to : ℕ) (e : Edge LetterIndex) → Contains (back class o to) e → (o ≡ Some e.from) × (e.letter ≡ Some (at_place class)) × (to ≡ e.to)
back_cases class None to e h = absurd (Contains-nil_cases e h)
back_cases class (Some from) to e h =
    let same = one_cases (record { from = from; letter = Some (at_place class); to = to }) e h in
    (ap (λ f. Some f.from) same, sym (ap (λ f. f.letter) same), ap (λ f. f.to) same)

place_same : (j k : ℕ) → Some (at_place j) ≡ Some (at_place k) → j ≡ k
place_same j k e = ap (λ p. p.0) (same_Some (at_place j) (at_place k) e)

module _ (edges : List (Edge LetterIndex)) where
  -- the epsilon edges alone
  pub classes_none : (kept : List (Edge LetterIndex)) → kept ≡ filter is_epsilon edges → IsByClass edges [] kept
  classes_none kept is = record {
    epsilon = λ p q.
        let e : Edge LetterIndex = record { from = p; letter = None; to = q } in
        (λ h. ((epsilon_is edges kept is e).0 h).0, λ h. (epsilon_is edges kept is e).1 (h, refl));
    lettered = λ p class q. (
      λ h. let s = ((epsilon_is edges kept is (record { from = p; letter = Some (at_place class); to = q })).0 h).1 in absurd (cc),
      λ r. let past : slice_get [] class ≡ Some r.0 = r.1 in absurd (cc),
    );
  }

  -- one more class
  pub classes_more : (letters : List (Edge ℕ)) → IsByLetter edges letters → (firsts : List ℕ) (first : ℕ) (out : List (Edge ℕ)) → ((e : Edge ℕ) → Contains out e ↔ (Contains letters e × (e.from ≡ first))) → (kept more : List (Edge LetterIndex)) → more ≡ kept ++ flat_map (at_class (length firsts)) out → IsByClass edges firsts kept → IsByClass edges (firsts ++ first ∷ []) more
  classes_more letters turned_are firsts first out leaves kept more is before = record {
    epsilon = λ p q.
        let e : Edge LetterIndex = record { from = p; letter = None; to = q } in (
          λ h. elim (Contains-append_cases kept (flat_map (at_class (length firsts)) out) e (subst (λ es. Contains es e) is h)) [
            | inl old ↦ (before.epsilon p q).0 old
            | inr fresh ↦
                let r = flat_cases (at_class (length firsts)) out e fresh in
                let b : None ≡ Some (at_place (length firsts)) = (back_cases (length firsts) r.0.letter r.0.to e r.2).1 in
                absurd (cc)
          ],
          λ h. subst (λ es. Contains es e) (sym is) (Contains-append_left kept (flat_map (at_class (length firsts)) out) e ((before.epsilon p q).1 h)),
        );
    lettered = λ p class q.
        let e : Edge LetterIndex = record { from = p; letter = Some (at_place class); to = q } in (
          λ h. elim (Contains-append_cases kept (flat_map (at_class (length firsts)) out) e (subst (λ es. Contains es e) is h)) [
            | inl old ↦
                let r = (before.lettered p class q).0 old in
                (r.0, slice_get-append_left firsts (first ∷ []) class (slice_get_within firsts class r.0 r.1) ∙ r.1, r.2)
            | inr fresh ↦
                let r = flat_cases (at_class (length firsts)) out e fresh in
                let b = back_cases (length firsts) r.0.letter r.0.to e r.2 in
                let last : class ≡ length firsts = place_same class (length firsts) b.1 in
                let l = (leaves r.0).0 r.1 in
                let held : Goes letters first (Some p) q = goes_from letters r.0 first q (Some p) l.0 l.1 b.0 b.2 in
                let g = (turned_are first q (Some p)).0 held in
                let from : p ≡ g.0 = same_Some p g.0 g.1 in
                (first, subst (λ k. slice_get (firsts ++ first ∷ []) k ≡ Some first) (sym last) (slice_get-push firsts first), subst (λ k. Goes edges k (Some (at_place first)) q) (sym from) g.2)
          ],
          λ (f, at, h). subst (λ es. Contains es e) (sym is) (elim (slice_get-append_cases firsts (first ∷ []) class f at) [
            | inl old ↦ Contains-append_left kept (flat_map (at_class (length firsts)) out) e ((before.lettered p class q).1 (f, old, h))
            | inr (zero, sum, this) ↦
                let same : first ≡ f = same_Some first f this in
                let last : length firsts ≡ class = let s : class ≡ 0 + length firsts = sum in omega arith in
                let edge : Edge ℕ = record { from = first; letter = Some p; to = q } in
                let held : Contains letters edge = (turned_are first q (Some p)).1 (p, refl, subst (λ k. Goes edges p (Some (at_place k)) q) (sym same) h) in
                let listed : Contains out edge = (leaves edge).1 (held, refl) in
                let made : Edge LetterIndex = record { from = p; letter = Some (at_place (length firsts)); to = q } in
                let there : Contains (flat_map (at_class (length firsts)) out) made = flat_has (at_class (length firsts)) out edge made listed (Contains-head made []) in
                Contains-append_right kept (flat_map (at_class (length firsts)) out) e (subst (λ k. Goes (flat_map (at_class (length firsts)) out) p (Some (at_place k)) q) last there)
            | inr (suc j, sum, this) ↦ let past : slice_get [] j ≡ Some f = this in absurd (cc)
          ]),
        );
  }

  -- the same edges in another order, when each class was looked at
  pub classes_all : (firsts : List ℕ) (i : ℕ) (kept rows : List (Edge LetterIndex)) → length firsts ≤ i → IsPermutation kept rows → IsByClass edges (take i firsts) kept → IsByClass edges firsts rows
  classes_all firsts i kept rows past moved before =
      let whole : IsByClass edges firsts kept = subst (λ fs. IsByClass edges fs kept) (take_all i firsts past) before in
      let there : (e : Edge LetterIndex) → Contains kept e → Contains rows e = λ e. Contains-permutation kept rows e moved in
      let again : (e : Edge LetterIndex) → Contains rows e → Contains kept e = λ e. Contains-permutation rows kept e (IsPermutation-sym kept rows moved) in
      record {
        epsilon = λ p q. (
          λ h. (whole.epsilon p q).0 (again (record { from = p; letter = None; to = q }) h),
          λ h. there (record { from = p; letter = None; to = q }) ((whole.epsilon p q).1 h),
        );
        lettered = λ p class q. (
          λ h. (whole.lettered p class q).0 (again (record { from = p; letter = Some (at_place class); to = q }) h),
          λ h. there (record { from = p; letter = Some (at_place class); to = q }) ((whole.lettered p class q).1 h),
        );
      }

  -- the edges enter the same states
  pub classed_within : (firsts : List ℕ) (rows : List (Edge LetterIndex)) (bound : ℕ) → IsByClass edges firsts rows → AreWithin edges bound → AreWithin rows bound
  classed_within firsts rows bound is within e h = go e.letter h
    where
      go : (o : Option LetterIndex) → Goes rows e.from o e.to → e.to < bound
      go None held = within (record { from = e.from; letter = None; to = e.to }) ((is.epsilon e.from e.to).0 held)
      go (Some p) held = let r = (is.lettered e.from p.0 e.to).0 held in within (record { from = e.from; letter = Some (at_place r.0); to = e.to }) r.2

  module _ (finals : List Bool) (letters : ℕ) (turned_edges : List (Edge ℕ)) (are : IsByLetter edges turned_edges) (of_places firsts : List ℕ) (alike : AreAlike (GoAlike turned_edges) letters of_places firsts) (rows : List (Edge LetterIndex)) (is : IsByClass edges firsts rows) where
    abbrev by_place : Placed
    by_place = record { edges = edges; finals = finals; letters = letters }

    abbrev by_classes : Placed
    by_classes = record { edges = rows; finals = finals; letters = length firsts }

    -- epsilon edges reach the same states
    epsilon_same : {p q : ℕ} → Reaches rows p q → Reaches edges p q
    epsilon_same here = here
    epsilon_same {p} (along {q = q} edge rest) = along ((is.epsilon p q).0 edge) (epsilon_same rest)

    epsilon_back : {p q : ℕ} → Reaches edges p q → Reaches rows p q
    epsilon_back here = here
    epsilon_back {p} (along {q = q} edge rest) = along ((is.epsilon p q).1 edge) (epsilon_back rest)

    state_same : (set : List ℕ) → IsStateSet by_classes set → IsStateSet by_place set
    state_same set state = record { closed = λ p q held edge. state.closed p q held ((is.epsilon p q).1 edge); within = state.within }

    -- letters of one class carry the same edges
    carried : (j k p q : ℕ) → GoAlike turned_edges j k → Goes edges p (Some (at_place j)) q → Goes edges p (Some (at_place k)) q
    carried j k p q same h =
        let moved = (same (Some p) q).0 ((are j q (Some p)).1 (p, refl, h)) in
        let r = (are k q (Some p)).0 moved in
        let from : p ≡ r.0 = same_Some p r.0 r.1 in
        subst (λ x. Goes edges x (Some (at_place k)) q) (sym from) r.2

    back_alike : (j k : ℕ) → GoAlike turned_edges j k → GoAlike turned_edges k j
    back_alike j k same letter to = ((same letter to).1, (same letter to).0)

    move_same : (set : List ℕ) (place class first r : ℕ) → slice_get firsts class ≡ Some first → GoAlike turned_edges place first → IsMove rows set class r ↔ IsMove edges set place r
    move_same set place class first r at same = (
      λ (p, held, edge).
          let g = (is.lettered p class r).0 edge in
          let is_first : g.0 ≡ first = same_at firsts class g.0 first g.1 at in
          (p, held, carried first place p r (back_alike place first same) (subst (λ f. Goes edges p (Some (at_place f)) r) is_first g.2)),
      λ (p, held, edge). (p, held, (is.lettered p class r).1 (first, at, carried place first p r same edge)),
    )

    leads_same : (set to : List ℕ) (place : ℕ) → ByClass (LeadsTo by_classes) of_places set place to → LeadsTo by_place set place to
    leads_same set to place (class, at, leads) q =
        let f = alike.first place class at in (
          λ h. let g = (leads q).0 h in (g.0, (move_same set place class f.0 g.0 f.1 f.2).0 g.1, epsilon_same g.2),
          λ g. (leads q).1 (g.0, (move_same set place class f.0 g.0 f.1 f.2).1 g.1, epsilon_back g.2),
        )

    -- what is built from classes is built from the letters
    pub built_same : (next : List ℕ) (marks : List Bool) → IsBuiltByClass by_classes of_places next marks → IsSubsetBuilt by_place next marks
    built_same next marks (start, is_start, built) =
        let weaker = explored_weaker (IsStateSet by_classes) (IsStateSet by_place) (ByClass (LeadsTo by_classes) of_places) (LeadsTo by_place) (IsFinalSet by_place) (length of_places) start next marks
        state_same (λ list to place l state. leads_same list to place) built in (
          start,
          λ q. (λ h. epsilon_same ((is_start q).0 h), λ path. (is_start q).1 (epsilon_back path)),
          subst (λ n. IsExplored (IsStateSet by_place) (LeadsTo by_place) (IsFinalSet by_place) n start next marks) alike.count weaker,
        )
