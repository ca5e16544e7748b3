-- Sets that are found one after another, and the edges between them.
use Rattle.std.proofs.Common.{◌≡◌, ℕ, ◌+◌, ◌<◌, ◌≤◌, ◌⊎◌, ◌↔◌, List, [], ◌∷◌, ◌++◌, Some, None, IsPermutation, length, get_or, take, refl, subst, sym, ap, inl, inr, arith, ◌∙◌, append_assoc}
use Rattle.std.specs.List.{Contains, slice_get}
use Rattle.std.proofs.lemmas.Bool.{cases_lt}
use Rattle.std.proofs.lemmas.List.{append-nil, take_more, take_all}
use Rattle.std.proofs.lemmas.List.Elements.{Contains-push_cases, Contains-push, Contains-append_left}
use Rattle.std.proofs.lemmas.List.Sorted.{Contains-permutation, IsPermutation-sym}
use Rattle.std.proofs.lemmas.Option.{slice_get_within}
use Rattle.word_relations.proofs.Members.{Contains-nil_cases}
use Rattle.word_relations.proofs.Places.{slice_get-append_left, same_at}
use Rattle.fsa.specs.declared.automaton.Edge.{Edge}
use Rattle.fsa_subset.specs.Placed.{Goes}
use Rattle.fsa_subset.specs.Partial.{Partial, AddsEdge, AddsSteps, IsStep, IsSpread}
use Rattle.fsa_subset.specs.Sets.{AreMoves, HasMove, IsMove, IsSettled, IsTargetSet, LeadsBy}
use Rattle.fsa_subset.specs.declared.places.LetterIndex.{LetterIndex}

-- sets keep their numbers when more are found
abbrev pub IsLonger : List (List ℕ) → List (List ℕ) → Type 0
IsLonger old new = (more : List (List ℕ)) × (new ≡ old ++ more)

kept_at : (old new : List (List ℕ)) → IsLonger old new → (k : ℕ) (set : List ℕ) → slice_get old k ≡ Some set → slice_get new k ≡ Some set
kept_at old new (more, is) k set at = ap (λ sets. slice_get sets k) is ∙ slice_get-append_left old more k (slice_get_within old k set at) ∙ at

longer_then : (a b c : List (List ℕ)) → IsLonger a b → IsLonger b c → IsLonger a c
longer_then a b c (more, is) (others, then) = (more ++ others, then ∙ ap (λ sets. sets ++ others) is ∙ append_assoc a more others)

longer_by : (old new : List (List ℕ)) (set : List ℕ) → (new ≡ old) ⊎ (new ≡ old ++ set ∷ []) → IsLonger old new
longer_by old new set (inl same) = ([], same ∙ sym (append-nil old))
longer_by old new set (inr is) = (set ∷ [], is)

step_kept : (Leads : ℕ → List ℕ → Type 0) (number place : ℕ) (old new : List (List ℕ)) (e : Edge LetterIndex) → IsLonger old new → IsStep Leads number old place e → IsStep Leads number new place e
step_kept Leads number place old new e longer (from, letter, (to, at, leads)) = (from, letter, (to, kept_at old new longer e.to to at, leads))

pub steps_none : (IsState : List ℕ → Type 0) (Leads : ℕ → List ℕ → Type 0) (number : ℕ) (places : List ℕ) (found : Partial) → AddsSteps IsState Leads number (Contains (take 0 places)) found found
steps_none IsState Leads number places found = record {
  sets = ([], sym (append-nil found.sets));
  states = λ set h. inl h;
  kept = λ e h. h;
  only = λ e h. inl h;
  all = λ place h. absurd (Contains-nil_cases place h);
}

-- one place more
pub steps_more : (IsState : List ℕ → Type 0) (Leads : ℕ → List ℕ → Type 0) (number : ℕ) (places : List ℕ) (i place : ℕ) (set : List ℕ) (old now new : Partial) → i < length places → place ≡ get_or places i 0
    → IsState set → Leads place set → AddsEdge number place set now new → AddsSteps IsState Leads number (Contains (take i places)) old now → AddsSteps IsState Leads number (Contains (take (i + 1) places)) old new
steps_more IsState Leads number places i place set old now new within at state leads adds before =
    let front : take (i + 1) places ≡ take i places ++ place ∷ [] = take_more places i 0 within ∙ ap (λ y. take i places ++ y ∷ []) (sym at) in
    let longer : IsLonger now.sets new.sets = longer_by now.sets new.sets set adds.sets in
    let edge : Edge LetterIndex = record { from = number; letter = Some (record { 0 = place }); to = adds.edge.0 } in
    let step : IsStep Leads number new.sets place edge = (refl, refl, (set, adds.edge.1, leads)) in
    record {
      sets = longer_then old.sets now.sets new.sets before.sets longer;
      states = λ s h. elim adds.sets [
        | inl same ↦ before.states s (subst (λ ss. Contains ss s) same h)
        | inr is ↦ elim (Contains-push_cases now.sets set s (subst (λ ss. Contains ss s) is h)) [
          | inl was ↦ before.states s was
          | inr e ↦ inr (subst IsState e state)
        ]
      ];
      kept = λ e h. subst (λ es. Contains es e) (sym adds.edge.2) (Contains-append_left now.edges (edge ∷ []) e (before.kept e h));
      only = λ e h. elim (Contains-push_cases now.edges edge e (subst (λ es. Contains es e) adds.edge.2 h)) [
        | inl was ↦ elim (before.only e was) [
          | inl older ↦ inl older
          | inr r ↦ inr (r.0, subst (λ ps. Contains ps r.0) (sym front) (Contains-append_left (take i places) (place ∷ []) r.0 r.1), step_kept Leads number r.0 now.sets new.sets e longer r.2)
        ]
        | inr same ↦ inr (place, subst (λ ps. Contains ps place) (sym front) (Contains-push (take i places) place), subst (λ f. IsStep Leads number new.sets place f) same step)
      ];
      all = λ p h. elim (Contains-push_cases (take i places) place p (subst (λ ps. Contains ps p) front h)) [
        | inl was ↦
            let r = before.all p was in
            (r.0, subst (λ es. Contains es r.0) (sym adds.edge.2) (Contains-append_left now.edges (edge ∷ []) r.0 r.1), step_kept Leads number p now.sets new.sets r.0 longer r.2)
        | inr same ↦
            (edge, subst (λ es. Contains es edge) (sym adds.edge.2) (Contains-push now.edges edge), subst (λ q. IsStep Leads number new.sets q edge) same step)
      ];
    }

pub steps_all : (IsState : List ℕ → Type 0) (Leads : ℕ → List ℕ → Type 0) (number : ℕ) (places : List ℕ) (i : ℕ) (old now : Partial) → length places ≤ i → AddsSteps IsState Leads number (Contains (take i places)) old now → AddsSteps IsState Leads number (Contains places) old now
steps_all IsState Leads number places i old now past = subst (λ ps. AddsSteps IsState Leads number (Contains ps) old now) (take_all i places past)

-- the places of the moves are those by which an edge leaves the set
module _ (rows : List (Edge LetterIndex)) (bound : ℕ) (set : List ℕ) (moves by_place : List (Edge LetterIndex)) (are : AreMoves rows set moves) (same : IsPermutation moves by_place) (places : List ℕ) (at : (place : ℕ) → Contains places place ↔ ((e : Edge LetterIndex) × Contains moves e × (e.from ≡ place))) where
  goes_move : (place r : ℕ) → Goes by_place place None r → IsMove rows set place r
  goes_move place r h =
      let e : Edge LetterIndex = record { from = place; letter = None; to = r } in
      ((are e).0 (Contains-permutation by_place moves e (IsPermutation-sym moves by_place same) h)).1

  move_goes : (place r : ℕ) → IsMove rows set place r → Goes by_place place None r
  move_goes place r move =
      let e : Edge LetterIndex = record { from = place; letter = None; to = r } in
      Contains-permutation moves by_place e same ((are e).1 (refl, move))

  has_place : (place : ℕ) → HasMove rows set place → Contains places place
  has_place place (r, move) =
      let e : Edge LetterIndex = record { from = place; letter = None; to = r } in
      (at place).1 (e, (are e).1 (refl, move), refl)

  place_has : (place : ℕ) → Contains places place → HasMove rows set place
  place_has place h =
      let r = (at place).0 h in
      (r.0.to, subst (λ p. IsMove rows set p r.0.to) r.2 ((are r.0).0 r.1).1)

  target_leads : (place : ℕ) (to : List ℕ) → IsTargetSet rows by_place place to → LeadsBy rows set place to
  target_leads place to is q = (
    λ h. let t = (is q).0 h in (t.0, goes_move place t.0 t.1, t.2),
    λ t. (is q).1 (t.0, move_goes place t.0 t.1, t.2),
  )

  step_leads : (number place : ℕ) (sets : List (List ℕ)) (e : Edge LetterIndex) → IsStep (IsTargetSet rows by_place) number sets place e → IsStep (LeadsBy rows set) number sets place e
  step_leads number place sets e (from, letter, (to, there, is)) = (from, letter, (to, there, target_leads place to is))

  pub steps_leave : (number : ℕ) (old new : Partial) → AddsSteps (IsSettled rows bound) (IsTargetSet rows by_place) number (Contains places) old new → AddsSteps (IsSettled rows bound) (LeadsBy rows set) number (HasMove rows set) old new
  steps_leave number old new adds = record {
    sets = adds.sets;
    states = adds.states;
    kept = adds.kept;
    only = λ e h. elim (adds.only e h) [
      | inl was ↦ inl was
      | inr r ↦ inr (r.0, place_has r.0 r.1, step_leads number r.0 new.sets e r.2)
    ];
    all = λ place has. (let r = adds.all place (has_place place has) in (r.0, r.1, step_leads number place new.sets r.0 r.2));
  }

-- from the start on
module _ (IsState : List ℕ → Type 0) (Leads : List ℕ → ℕ → List ℕ → Type 0) (Moves : List ℕ → ℕ → Type 0) (start : List ℕ) where
  pub spread_first : (found : Partial) → found.sets ≡ start ∷ [] → found.edges ≡ [] → IsState start → IsSpread IsState Leads Moves start 0 found
  spread_first found sets edges state =
      let is : record { sets = start ∷ []; edges = [] } ≡ found = λ i. record { sets = sym sets i; edges = sym edges i } in
      subst (IsSpread IsState Leads Moves start 0) is first
    where
      one : (set : List ℕ) → Contains (start ∷ []) set → IsState set
      one set h = elim (Contains-push_cases [] start set h) [ inl none ↦ absurd (Contains-nil_cases set none) | inr same ↦ subst IsState same state ]

      first : IsSpread IsState Leads Moves start 0 (record { sets = start ∷ []; edges = [] })
      first = record {
        start_first = refl;
        states = one;
        only = λ e h. absurd (Contains-nil_cases e h);
        all = λ number place set less at moves. absurd (omega arith);
      }

  pub spread_more : (i : ℕ) (set : List ℕ) (now new : Partial) → slice_get now.sets i ≡ Some set → AddsSteps IsState (Leads set) i (Moves set) now new → IsSpread IsState Leads Moves start i now → IsSpread IsState Leads Moves start (i + 1) new
  spread_more i set now new at adds before = record {
    start_first = kept_at now.sets new.sets adds.sets 0 start before.start_first;
    states = λ s h. elim (adds.states s h) [ inl was ↦ before.states s was | inr state ↦ state ];
    only = λ e h. elim (adds.only e h) [
      | inl was ↦
          let r = before.only e was in
          (r.0, r.1, r.2, kept_at now.sets new.sets adds.sets r.0 r.1 r.3, r.4, step_kept (Leads r.1) r.0 r.2 now.sets new.sets e adds.sets r.5)
      | inr r ↦ (i, set, r.0, kept_at now.sets new.sets adds.sets i set at, r.1, r.2)
    ];
    all = λ number place s less there moves. elim (cases_lt number i) [
      | inl below ↦
          let was : slice_get now.sets number ≡ Some s = back number s (omega (arith, below, slice_get_within now.sets i set at)) there in
          let r = before.all number place s below was moves in
          (r.0, adds.kept r.0 r.1, step_kept (Leads s) number place now.sets new.sets r.0 adds.sets r.2)
      | inr le ↦
          let here : i ≡ number = omega arith in
          let same : s ≡ set = same_at new.sets number s set there (subst (λ k. slice_get new.sets k ≡ Some set) here (kept_at now.sets new.sets adds.sets i set at)) in
          let r = adds.all place (subst (λ t. Moves t place) same moves) in
          (r.0, r.1, subst (λ k. IsStep (Leads s) k new.sets place r.0) here (subst (λ t. IsStep (Leads t) i new.sets place r.0) (sym same) r.2))
    ];
  }
    where
      back : (k : ℕ) (s : List ℕ) → k < length now.sets → slice_get new.sets k ≡ Some s → slice_get now.sets k ≡ Some s
      back k s less there = sym (ap (λ sets. slice_get sets k) adds.sets.1 ∙ slice_get-append_left now.sets adds.sets.0 k less) ∙ there

  -- each set has its edges
  pub spread_all : (i : ℕ) (found : Partial) → length found.sets ≤ i → IsSpread IsState Leads Moves start i found → IsSpread IsState Leads Moves start (length found.sets) found
  spread_all i found past spread = record {
    start_first = spread.start_first;
    states = spread.states;
    only = spread.only;
    all = λ number place s less at moves. spread.all number place s (omega arith) at moves;
  }
