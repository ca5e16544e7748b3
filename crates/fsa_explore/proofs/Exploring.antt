-- The search from the start: what each state that is looked at adds.
use Rattle.std.proofs.Common.{◌≡◌, ℕ, zero, suc, ◌+◌, ◌*◌, ◌<◌, ◌≤◌, ◌↔◌, List, [], ◌∷◌, ◌++◌, Bool, true, Some, IsTrue, length, get_or, refl, subst, sym, ap, inl, inr, arith, ◌∙◌, length-append, append_assoc}
use Rattle.std.specs.List.{slice_get, Contains}
use Rattle.std.proofs.lemmas.Option.{slice_get_within, same_Some, slice_get-get_or}
use Rattle.std.proofs.lemmas.List.{append-nil, length_push}
use Rattle.std.proofs.lemmas.List.Elements.{Contains-push_cases}
use Rattle.std.proofs.lemmas.Nat.{same_from_place}
use Rattle.std.proofs.lemmas.Bool.{cases_lt}
use Rattle.std.proofs.Math.Nat.{mul-le-mul_right}
use Rattle.word_relations.proofs.Members.{Contains-nil_cases, Contains-cons_cases}
use Rattle.word_relations.proofs.Places.{slice_get-append_left, slice_get-append_cases, slice_get-push, same_at, Contains-from_slice_get}
use Rattle.fsa_explore.specs.Explored.{Numbered, AddsTarget, AddsRow, IsExplored, StartsAt}

-- what stood at a place before more was added stands there
pub kept_at : {X : Type 0} (xs ys more : List X) → ys ≡ xs ++ more → (k : ℕ) (x : X) → slice_get xs k ≡ Some x → slice_get ys k ≡ Some x
kept_at xs ys more is k x at =
    ap (λ zs. slice_get zs k) is ∙ slice_get-append_left xs more k (slice_get_within xs k x at) ∙ at

-- what stands at a place after more was added stood there, if the place was there
stood_at : {X : Type 0} (xs ys more : List X) → ys ≡ xs ++ more → (k : ℕ) (x : X) → k < length xs → slice_get ys k ≡ Some x → slice_get xs k ≡ Some x
stood_at xs ys more is k x within at = sym (slice_get-append_left xs more k within) ∙ sym (ap (λ zs. slice_get zs k) is) ∙ at

module _ (IsState : List ℕ → Type 0) (Leads : ℕ → List ℕ → Type 0) where
  pub AddsRow-none : (found : Numbered) → AddsRow IsState Leads 0 found found
  AddsRow-none found = record {
    lists = ([], sym (append-nil found.lists));
    states = λ list h. inl h;
    next = ([], sym (append-nil found.next), refl, λ place number at. let past : slice_get [] place ≡ Some number = at in absurd (cc));
  }

  -- a list that is added for the next letter
  pub AddsRow-push : (place : ℕ) (old now new : Numbered) (list : List ℕ) → IsState list → Leads place list → AddsTarget now new list → AddsRow IsState Leads place old now → AddsRow IsState Leads (place + 1) old new
  AddsRow-push place old now new list state leads step before =
      let more : (ls : List (List ℕ)) × (new.lists ≡ now.lists ++ ls) = elim step.lists [ inl same ↦ ([], same ∙ sym (append-nil now.lists)) | inr is ↦ (list ∷ [], is) ] in
      let row : List ℕ = before.next.0 in
      let number : ℕ = step.next.0 in
      record {
        lists = (before.lists.0 ++ more.0, more.1 ∙ ap (λ ls. ls ++ more.0) before.lists.1 ∙ append_assoc old.lists before.lists.0 more.0);
        states = λ l h. elim step.lists [
          | inl same ↦ before.states l (subst (λ ls. Contains ls l) same h)
          | inr is ↦ elim (Contains-push_cases now.lists list l (subst (λ ls. Contains ls l) is h)) [
            | inl there ↦ before.states l there
            | inr this ↦ inr (subst IsState this state)
          ]
        ];
        next = (
          row ++ number ∷ [],
          step.next.1 ∙ ap (λ ns. ns ++ number ∷ []) before.next.1 ∙ append_assoc old.next row (number ∷ []),
          length_push row number ∙ ap (λ n. n + 1) before.next.2,
          λ k t at. elim (slice_get-append_cases row (number ∷ []) k t at) [
            | inl there ↦ let r = before.next.3 k t there in (r.0, kept_at now.lists new.lists more.0 more.1 t r.0 r.1, r.2)
            | inr (zero, k_is, this) ↦
                let is_number : number ≡ t = same_Some number t this in
                let is_place : place ≡ k = let w : length row ≡ place = before.next.2 in let at_end : k ≡ 0 + length row = k_is in omega arith in
                (list, subst (λ n. slice_get new.lists n ≡ Some list) is_number step.next.2, subst (λ j. Leads j list) is_place leads)
            | inr (suc j, k_is, this) ↦ let past : slice_get [] j ≡ Some t = this in absurd (cc)
          ],
        );
      }

-- a row of lists that may do more
pub AddsRow-weaker : (P P' : List ℕ → Type 0) (Q Q' : ℕ → List ℕ → Type 0) (letters : ℕ) (old new : Numbered) → ((list : List ℕ) → P list → P' list) → ((place : ℕ) (list : List ℕ) → Q place list → Q' place list) → AddsRow P Q letters old new → AddsRow P' Q' letters old new
AddsRow-weaker P P' Q Q' letters old new f g row = record {
  lists = row.lists;
  states = λ list h. elim (row.states list h) [ inl there ↦ inl there | inr p ↦ inr (f list p) ];
  next = (row.next.0, row.next.1, row.next.2, λ place number at. let r = row.next.3 place number at in (r.0, r.1, g place r.0 r.2));
}

-- what holds when so many states were looked at as there are final marks
pub record IsExploring (IsState : List ℕ → Type 0) (Leads : List ℕ → ℕ → List ℕ → Type 0) (IsFinal : List ℕ → Type 0) (letters : ℕ) (start : List ℕ) (found : Numbered) (finals : List Bool) : Type 0 where
  pub start_first : slice_get found.lists 0 ≡ Some start
  pub looked : length finals ≤ length found.lists
  pub full : length found.next ≡ length finals * letters
  pub within : (k number : ℕ) → slice_get found.next k ≡ Some number → number < length found.lists
  pub states : (list : List ℕ) → Contains found.lists list → IsState list
  pub leads : (state place number : ℕ) (list : List ℕ) → place < letters → slice_get found.lists state ≡ Some list → slice_get found.next (state * letters + place) ≡ Some number → (to : List ℕ) × (slice_get found.lists number ≡ Some to) × Leads list place to
  pub final : (state : ℕ) (list : List ℕ) → state < length finals → slice_get found.lists state ≡ Some list → (slice_get finals state ≡ Some true) ↔ IsFinal list

module _ (IsState : List ℕ → Type 0) (Leads : List ℕ → ℕ → List ℕ → Type 0) (IsFinal : List ℕ → Type 0) (letters : ℕ) (start : List ℕ) where
  abbrev Exploring : Numbered → List Bool → Type 0
  Exploring found finals = IsExploring IsState Leads IsFinal letters start found finals

  pub exploring_none : (found : Numbered) → IsState start → StartsAt start found → IsExploring IsState Leads IsFinal letters start found []
  exploring_none found state is = record {
    start_first = ap (λ ls. slice_get ls 0) is.lists;
    looked = omega arith;
    full = let none : 0 * letters ≡ 0 = omega arith in ap length is.next ∙ sym none;
    within = λ k number at. let past : slice_get [] k ≡ Some number = sym (ap (λ ns. slice_get ns k) is.next) ∙ at in absurd (cc);
    states = λ list h. elim (Contains-cons_cases start [] list (subst (λ ls. Contains ls list) is.lists h)) [
      | inl this ↦ subst IsState this state
      | inr past ↦ absurd (Contains-nil_cases list past)
    ];
    leads = λ state place number list inside at goes. let past : slice_get [] (state * letters + place) ≡ Some number = sym (ap (λ ns. slice_get ns (state * letters + place)) is.next) ∙ goes in absurd (cc);
    final = λ state list inside at. absurd (omega arith);
  }

  pub exploring_state : (found : Numbered) (finals : List Bool) (list : List ℕ) → slice_get found.lists (length finals) ≡ Some list → IsExploring IsState Leads IsFinal letters start found finals → IsState list
  exploring_state found finals list at e = e.states list (Contains-from_slice_get found.lists (length finals) list at)

  module _ (found new : Numbered) (finals : List Bool) (list : List ℕ) (b : Bool) (at : slice_get found.lists (length finals) ≡ Some list) (is_final : IsTrue b ↔ IsFinal list) (row : AddsRow IsState (Leads list) letters found new) (e : IsExploring IsState Leads IsFinal letters start found finals) where
    there : (k : ℕ) (l : List ℕ) → slice_get found.lists k ≡ Some l → slice_get new.lists k ≡ Some l
    there = kept_at found.lists new.lists row.lists.0 row.lists.1

    longer : length new.lists ≡ length found.lists + length row.lists.0
    longer = ap length row.lists.1 ∙ length-append found.lists row.lists.0

    here : slice_get new.lists (length finals) ≡ Some list
    here = there (length finals) list at

    more_within : (k number : ℕ) → slice_get new.next k ≡ Some number → number < length new.lists
    more_within k number goes =
        elim (slice_get-append_cases found.next row.next.0 k number (sym (ap (λ ns. slice_get ns k) row.next.1) ∙ goes)) [
          | inl old ↦ let l = e.within k number old in let n = longer in omega arith
          | inr fresh ↦ let r = row.next.3 fresh.0 number fresh.2 in slice_get_within new.lists number r.0 r.1
        ]

    more_leads : (state place number : ℕ) (from : List ℕ) → place < letters → slice_get new.lists state ≡ Some from → slice_get new.next (state * letters + place) ≡ Some number → (to : List ℕ) × (slice_get new.lists number ≡ Some to) × Leads from place to
    more_leads state place number from inside from_at goes =
        elim (slice_get-append_cases found.next row.next.0 (state * letters + place) number (sym (ap (λ ns. slice_get ns (state * letters + place)) row.next.1) ∙ goes)) [
          | inl old ↦
              let before : state * letters + place < length found.next = slice_get_within found.next (state * letters + place) number old in
              let full : length found.next ≡ length finals * letters = e.full in
              let looked : length finals ≤ length found.lists = e.looked in
              let state_old : state < length finals = elim (cases_lt state (length finals)) [
                | inl l ↦ l
                | inr g ↦ let h : length finals * letters ≤ state * letters = mul-le-mul_right letters g in absurd (omega arith)
              ] in
              let r = e.leads state place number from inside (stood_at found.lists new.lists row.lists.0 row.lists.1 state from (omega arith) from_at) old in
              (r.0, there number r.0 r.1, r.2)
          | inr fresh ↦
              let j : ℕ = fresh.0 in
              let short : j < letters = let l = slice_get_within row.next.0 j number fresh.2 in let w : length row.next.0 ≡ letters = row.next.2 in omega arith in
              let full : length found.next ≡ length finals * letters = e.full in
              let sum : state * letters + place ≡ j + length found.next = fresh.1 in
              let same = same_from_place state place (length finals) j letters inside short (omega arith) in
              let is_list : list ≡ from = same_at new.lists (length finals) list from here (subst (λ s. slice_get new.lists s ≡ Some from) same.0 from_at) in
              let r = row.next.3 j number fresh.2 in
              (r.0, r.1, subst (λ l. Leads l place r.0) is_list (subst (λ p. Leads list p r.0) (sym same.1) r.2))
        ]

    more_final : (state : ℕ) (l : List ℕ) → state < length (finals ++ b ∷ []) → slice_get new.lists state ≡ Some l → (slice_get (finals ++ b ∷ []) state ≡ Some true) ↔ IsFinal l
    more_final state l inside l_at =
        let looked : length finals ≤ length found.lists = e.looked in
        elim (cases_lt state (length finals)) [
          | inl before ↦
              let old = e.final state l before (stood_at found.lists new.lists row.lists.0 row.lists.1 state l (omega arith) l_at) in
              subst (λ o. (o ≡ Some true) ↔ IsFinal l) (sym (slice_get-append_left finals (b ∷ []) state before)) old
          | inr past ↦
              let long = length_push finals b in
              let is : length finals ≡ state = omega arith in
              let is_list : list ≡ l = same_at new.lists state list l (subst (λ s. slice_get new.lists s ≡ Some list) is here) l_at in
              let mark : slice_get (finals ++ b ∷ []) state ≡ Some b = subst (λ s. slice_get (finals ++ b ∷ []) s ≡ Some b) is (slice_get-push finals b) in (
                λ h. subst IsFinal is_list (is_final.0 (same_Some b true (sym mark ∙ h))),
                λ h. mark ∙ ap Some (is_final.1 (subst IsFinal (sym is_list) h)),
              )
        ]

    pub exploring_more : IsExploring IsState Leads IsFinal letters start new (finals ++ b ∷ [])
    exploring_more = record {
      start_first = there 0 start e.start_first;
      looked = let l = slice_get_within new.lists (length finals) list here in let n = length_push finals b in omega arith;
      full =
          let w : length row.next.0 ≡ letters = row.next.2 in
          let old : length found.next ≡ length finals * letters = e.full in
          let n : length (finals ++ b ∷ []) ≡ length finals + 1 = length_push finals b in
          let long : length new.next ≡ length found.next + length row.next.0 = ap length row.next.1 ∙ length-append found.next row.next.0 in
          let product : (length finals + 1) * letters ≡ length finals * letters + letters = grind arith in
          long ∙ ap (λ k. k + length row.next.0) old ∙ ap (λ k. length finals * letters + k) w ∙ sym product ∙ ap (λ k. k * letters) (sym n);
      within = more_within;
      states = λ l h. elim (row.states l h) [ inl old ↦ e.states l old | inr fresh ↦ fresh ];
      leads = more_leads;
      final = more_final;
    }

  pub exploring_all : (found : Numbered) (finals : List Bool) → length found.lists ≤ length finals → IsExploring IsState Leads IsFinal letters start found finals → IsExplored IsState Leads IsFinal letters start found.next finals
  exploring_all found finals past e =
      let looked : length finals ≤ length found.lists = e.looked in
      record {
        lists = found.lists;
        start_first = e.start_first;
        count = omega arith;
        full = e.full;
        within = λ i d l. let w = e.within i (get_or found.next i d) (slice_get-get_or found.next i d l) in omega arith;
        states = e.states;
        leads = e.leads;
        final = λ state list at. e.final state list (let l = slice_get_within found.lists state list at in omega arith) at;
      }

-- the step of the search, with the automaton and the copies of its state as the code has them
pub exploring_step : {X : Type 0} (IsState : X → List ℕ → Type 0) (Leads : X → List ℕ → ℕ → List ℕ → Type 0) (IsFinal : X → List ℕ → Type 0) (letters : X → ℕ) (start : List ℕ) (a now : X) (found new : Numbered) (finals finals_new : List Bool) (list copy again : List ℕ) (b : Bool) → now ≡ a → copy ≡ list → again ≡ list → slice_get found.lists (length finals) ≡ Some list → (IsTrue b ↔ IsFinal now copy) → AddsRow (IsState now) (Leads now again) (letters now) found new → finals_new ≡ finals ++ b ∷ [] → IsExploring (IsState a) (Leads a) (IsFinal a) (letters a) start found finals → IsExploring (IsState a) (Leads a) (IsFinal a) (letters a) start new finals_new
exploring_step IsState Leads IsFinal letters start a now found new finals finals_new list copy again b same is_copy is_again at is_final row is_new e =
    let final_here : IsTrue b ↔ IsFinal a list = subst (λ x. IsTrue b ↔ IsFinal x list) same (subst (λ l. IsTrue b ↔ IsFinal now l) is_copy is_final) in
    let row_here : AddsRow (IsState a) (Leads a list) (letters a) found new = subst (λ x. AddsRow (IsState x) (Leads x list) (letters x) found new) same (subst (λ l. AddsRow (IsState now) (Leads now l) (letters now) found new) is_again row) in
    subst (λ fs. IsExploring (IsState a) (Leads a) (IsFinal a) (letters a) start new fs) (sym is_new)
    (exploring_more (IsState a) (Leads a) (IsFinal a) (letters a) start found new finals list b at final_here row_here e)
