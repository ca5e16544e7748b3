-- Breadth-first search: states that are found in the order of their distance from the start, and the words by
-- which they were found.
use Rattle.std.proofs.Common.{◌≡◌, ℕ, zero, suc, ◌+◌, ◌*◌, ◌<◌, ◌≤◌, ◌⊎◌, List, [], ◌∷◌, ◌++◌, true, Option, Some, None, length, get_or, refl, subst, sym, ap, inl, inr, arith, ◌∙◌, append_assoc}
use Rattle.std.specs.List.{slice_get, Contains}
use Rattle.std.proofs.lemmas.Option.{slice_get_within, same_Some, none-some, slice_get-get_or}
use Rattle.std.proofs.lemmas.List.{append-nil, length_push}
use Rattle.std.proofs.lemmas.List.Elements.{Contains-append_left, Contains-push}
use Rattle.std.proofs.lemmas.Bool.{cases_lt}
use Rattle.word_relations.proofs.Places.{slice_get-append_left, slice_get-append_cases, slice_get-push, same_at, slice_get_from_Contains}
use Rattle.fsa.specs.Complete.{Complete, AcceptsFrom, Accepts, stop, read, next_state}
use Rattle.fsa_explore.specs.Marks.{Marks}
use Rattle.fsa_product.specs.Search.{IsShortest, AreWordsOf, EndsShortest, HasNext, IsSearch, AddsState}
use Rattle.fsa_product.specs.declared.search.Step.{Step}

-- what stands at a place that is there
pub at_of : {X : Type 0} (xs : List X) (k : ℕ) → k < length xs → (x : X) × (slice_get xs k ≡ Some x)
at_of [] k l = absurd (omega arith)
at_of (x ∷ xs) zero l = (x, refl)
at_of (x ∷ xs) (suc k) l = at_of xs k (omega arith)

-- a place of a list to which one element was added
push_cases : {X : Type 0} (xs : List X) (y : X) (k : ℕ) (x : X) → slice_get (xs ++ y ∷ []) k ≡ Some x → (slice_get xs k ≡ Some x) ⊎ ((k ≡ length xs) × (y ≡ x))
push_cases xs y k x at = elim (slice_get-append_cases xs (y ∷ []) k x at) [
  | inl old ↦ inl old
  | inr (zero, is, this) ↦ inr (omega arith, same_Some y x this)
  | inr (suc j, is, this) ↦ let past : slice_get [] j ≡ Some x = this in absurd (cc)
]

push_old : {X : Type 0} (xs : List X) (y : X) (k : ℕ) (x : X) → slice_get xs k ≡ Some x → slice_get (xs ++ y ∷ []) k ≡ Some x
push_old xs y k x at = slice_get-append_left xs (y ∷ []) k (slice_get_within xs k x at) ∙ at

-- the state with a number, as the code reads it
pub state_at : (found view : List ℕ) (number : ℕ) → view ≡ found → number < length view → slice_get found number ≡ Some (get_or view number 0)
state_at found view number is inside = ap (λ xs. slice_get xs number) (sym is) ∙ slice_get-get_or view number 0 inside

module _ {L : Type 0} (d : Complete L) where
  -- one more letter leads to a state that was found
  pub HasNext-more : (state place t : ℕ) (found new : List ℕ) → HasNext d state place found → ((k : ℕ) → Contains found k → Contains new k) → next_state d state place ≡ Some t → Contains new t → HasNext d state (place + 1) new
  HasNext-more state place t found new before keeps goes held k u inside go = elim (cases_lt k place) [
    | inl old ↦ keeps u (before k u old go)
    | inr past ↦
        let same : k ≡ place = omega arith in
        let is : t ≡ u = same_at d.next (state * length d.letters + place) t u goes (subst (λ j. next_state d state j ≡ Some u) same go) in
        subst (λ y. Contains new y) is held
  ]

  -- the start alone
  pub search_start : 0 < length d.finals → (reached : Marks) (steps : List (Option Step)) → reached ≡ record { bound = length d.finals; found = 0 ∷ [] } → steps ≡ None ∷ [] → IsSearch d 0 reached steps
  search_start there reached steps is_reached is_steps =
      subst (λ r. IsSearch d 0 r steps) (sym is_reached) (subst (λ s. IsSearch d 0 (record { bound = length d.finals; found = 0 ∷ [] }) s) (sym is_steps) first)
    where
      only_root : (i : ℕ) (step : Step) → slice_get (None ∷ []) i ≡ Some (Some step) → ⊥
      only_root zero step at = none-some step (same_Some None (Some step) at)
      only_root (suc i) step at = let past : slice_get {X = Option Step} [] i ≡ Some (Some step) = at in absurd (cc)

      one_word : (i : ℕ) (w : List L) → slice_get ([] ∷ []) i ≡ Some w → [] ≡ w
      one_word zero w at = same_Some [] w at
      one_word (suc i) w at = let past : slice_get {X = List L} [] i ≡ Some w = at in absurd (cc)

      one_state : (i s : ℕ) → slice_get (0 ∷ []) i ≡ Some s → 0 ≡ s
      one_state zero s at = same_Some 0 s at
      one_state (suc i) s at = let past : slice_get {X = ℕ} [] i ≡ Some s = at in absurd (cc)

      root_word : (i : ℕ) → slice_get {X = Option Step} (None ∷ []) i ≡ Some None → slice_get {X = List L} ([] ∷ []) i ≡ Some []
      root_word zero at = refl
      root_word (suc i) at = let past : slice_get {X = Option Step} [] i ≡ Some None = at in absurd (cc)

      first : IsSearch d 0 (record { bound = length d.finals; found = 0 ∷ [] }) (None ∷ [])
      first = record {
        words = [] ∷ [];
        are_words = record { count = refl; root = root_word; longer = λ i step at. absurd (only_root i step at) };
        bound = refl;
        within = λ i s at. subst (λ k. k < length d.finals) (one_state i s at) there;
        count = refl;
        start = refl;
        start_word = refl;
        leads = λ i s w v s_at w_at h. subst (λ u. Accepts d (u ++ v)) (one_word i w w_at) (subst (λ p. AcceptsFrom d p v) (sym (one_state i s s_at)) h);
        order = λ i j v w le v_at w_at. let a : 0 ≡ length v = ap length (one_word i v v_at) in omega arith;
        ahead = λ j v w v_at w_at. let a : 0 ≡ length w = ap length (one_word j w w_at) in omega arith;
        closed = λ i s k t v l. absurd (omega arith);
        not_final = λ i s l. absurd (omega arith);
      }

  -- a state that wasn't found before, by a letter from the one that is looked at
  module _ (number : ℕ) (reached : Marks) (steps : List (Option Step)) (e : IsSearch d number reached steps) (state : ℕ) (at : slice_get reached.found number ≡ Some state) (place t : ℕ) (x : L) (letter : slice_get d.letters place ≡ Some x) (goes : next_state d state place ≡ Some t) (t_there : t < length d.finals) where
    abbrev step : Step
    step = record { before = number; place = place }

    abbrev more : Marks
    more = record reached { found = reached.found ++ t ∷ [] }

    abbrev more_steps : List (Option Step)
    more_steps = steps ++ Some step ∷ []

    words_count : length e.words ≡ length reached.found
    words_count = e.are_words.count ∙ e.count

    here : (v : List L) × (slice_get e.words number ≡ Some v)
    here = at_of e.words number (let l = slice_get_within reached.found number state at in let n = words_count in omega arith)

    abbrev new_word : List L → List L
    new_word v = v ++ x ∷ []

    abbrev more_words : List L → List (List L)
    more_words v = e.words ++ new_word v ∷ []

    module _ (v : List L) (v_at : slice_get e.words number ≡ Some v) where
      long : length (new_word v) ≡ length v + 1
      long = length_push v x

      number_old : number < length reached.found
      number_old = slice_get_within reached.found number state at

      words_are : AreWordsOf d.letters more_steps (more_words v)
      words_are = record {
        count = length_push e.words (new_word v) ∙ ap (λ n. n + 1) e.are_words.count ∙ sym (length_push steps (Some step));
        root = λ i none. elim (push_cases steps (Some step) i None none) [
          | inl old ↦ push_old e.words (new_word v) i [] (e.are_words.root i old)
          | inr fresh ↦ absurd (none-some step (sym fresh.1))
        ];
        longer = λ i s some. elim (push_cases steps (Some step) i (Some s) some) [
          | inl old ↦
              let r = e.are_words.longer i s old in
              let b = r.1 in
              (r.0, (b.0, b.1, b.2, push_old e.words (new_word v) s.before b.1 b.3, push_old e.words (new_word v) i (b.1 ++ b.0 ∷ []) b.4))
          | inr fresh ↦
              let same : step ≡ s = same_Some step s fresh.1 in
              let place_same : place ≡ s.place = ap (λ q. q.place) same in
              let number_same : number ≡ s.before = ap (λ q. q.before) same in
              let i_is : length e.words ≡ i = e.are_words.count ∙ sym fresh.0 in
              let n = number_old in
              let c = e.count in
              let before : s.before < i = let f : i ≡ length steps = fresh.0 in omega arith in (
                before,
                (
                  x,
                  v,
                  subst (λ p. slice_get d.letters p ≡ Some x) place_same letter,
                  subst (λ k. slice_get (more_words v) k ≡ Some v) number_same (push_old e.words (new_word v) number v v_at),
                  subst (λ k. slice_get (more_words v) k ≡ Some (new_word v)) i_is (slice_get-push e.words (new_word v)),
                ),
              )
        ];
      }

      -- what a place holds, old or new
      word_bound : (j : ℕ) (w : List L) → slice_get (more_words v) j ≡ Some w → length w ≤ length v + 1
      word_bound j w w_at = elim (push_cases e.words (new_word v) j w w_at) [
        | inl old ↦ e.ahead j v w v_at old
        | inr fresh ↦ let a = ap length fresh.1 in let b = long in omega arith
      ]

      leads_more : (i s : ℕ) (w u : List L) → slice_get (reached.found ++ t ∷ []) i ≡ Some s → slice_get (more_words v) i ≡ Some w → AcceptsFrom d s u → Accepts d (w ++ u)
      leads_more i s w u s_at w_at h = elim (push_cases reached.found t i s s_at) [
        | inl old ↦ elim (push_cases e.words (new_word v) i w w_at) [
          | inl word_old ↦ e.leads i s w u old word_old h
          | inr fresh ↦
              let l = slice_get_within reached.found i s old in
              let n = words_count in
              let i_is : i ≡ length e.words = fresh.0 in
              absurd (omega arith)
        ]
        | inr fresh ↦ elim (push_cases e.words (new_word v) i w w_at) [
          | inl word_old ↦
              let l = slice_get_within e.words i w word_old in
              let n = words_count in
              let i_is : i ≡ length reached.found = fresh.0 in
              absurd (omega arith)
          | inr word_fresh ↦
              let from_t : AcceptsFrom d t u = subst (λ p. AcceptsFrom d p u) (sym fresh.1) h in
              let whole : Accepts d (v ++ (x ∷ u)) = e.leads number state v (x ∷ u) at v_at (read place letter goes from_t) in
              let joined : v ++ (x ∷ u) ≡ (v ++ x ∷ []) ++ u = sym (append_assoc v (x ∷ []) u) in
              subst (λ z. Accepts d (z ++ u)) word_fresh.1 (subst (Accepts d) joined whole)
        ]
      ]

      order_more : (i j : ℕ) (u w : List L) → i ≤ j → slice_get (more_words v) i ≡ Some u → slice_get (more_words v) j ≡ Some w → length u ≤ length w
      order_more i j u w le u_at w_at = elim (push_cases e.words (new_word v) j w w_at) [
        | inl w_old ↦ elim (push_cases e.words (new_word v) i u u_at) [
          | inl u_old ↦ e.order i j u w le u_old w_old
          | inr fresh ↦ let l = slice_get_within e.words j w w_old in let i_is : i ≡ length e.words = fresh.0 in absurd (omega arith)
        ]
        | inr w_fresh ↦
            let a = word_bound i u u_at in
            let b : length (new_word v) ≡ length w = ap length w_fresh.1 in
            let c = long in
            omega arith
      ]

      closed_more : (i s k q : ℕ) (u : List L) → i < number → slice_get (reached.found ++ t ∷ []) i ≡ Some s → slice_get (more_words v) i ≡ Some u → k < length d.letters → next_state d s k ≡ Some q → (j : ℕ) × (w : List L) × (slice_get (reached.found ++ t ∷ []) j ≡ Some q) × (slice_get (more_words v) j ≡ Some w) × (length w ≤ length u + 1)
      closed_more i s k q u before s_at u_at inside go = elim (push_cases reached.found t i s s_at) [
        | inl s_old ↦ elim (push_cases e.words (new_word v) i u u_at) [
          | inl u_old ↦
              let r = e.closed i s k q u before s_old u_old inside go in
              (r.0, r.1, push_old reached.found t r.0 q r.2, push_old e.words (new_word v) r.0 r.1 r.3, r.4)
          | inr fresh ↦ let n = number_old in let c = words_count in let i_is : i ≡ length e.words = fresh.0 in absurd (omega arith)
        ]
        | inr fresh ↦ let n = number_old in let i_is : i ≡ length reached.found = fresh.0 in absurd (omega arith)
      ]

      not_final_more : (i s : ℕ) → i < number → slice_get (reached.found ++ t ∷ []) i ≡ Some s → slice_get d.finals s ≡ Some true → ⊥
      not_final_more i s before s_at final = elim (push_cases reached.found t i s s_at) [
        | inl s_old ↦ e.not_final i s before s_old final
        | inr fresh ↦ let n = number_old in let i_is : i ≡ length reached.found = fresh.0 in absurd (omega arith)
      ]

      search_add_at : IsSearch d number more more_steps
      search_add_at = record {
        words = more_words v;
        are_words = words_are;
        bound = e.bound;
        within = λ i s s_at. elim (push_cases reached.found t i s s_at) [ inl old ↦ e.within i s old | inr fresh ↦ subst (λ k. k < length d.finals) fresh.1 t_there ];
        count = length_push steps (Some step) ∙ ap (λ n. n + 1) e.count ∙ sym (length_push reached.found t);
        start = push_old reached.found t 0 0 e.start;
        start_word = push_old e.words (new_word v) 0 [] e.start_word;
        leads = leads_more;
        order = order_more;
        ahead = λ j u w u_at w_at.
            let same : v ≡ u = same_at (more_words v) number v u (push_old e.words (new_word v) number v v_at) u_at in
            let a = ap length same in
            let b = word_bound j w w_at in
            omega arith;
        closed = closed_more;
        not_final = not_final_more;
      }

    search_add : IsSearch d number more more_steps
    search_add = search_add_at here.0 here.1

    -- what `reach` leaves
    pub search_adds : (reached_new : Marks) (steps_new : List (Option Step)) → AddsState reached steps t step reached_new steps_new → IsSearch d number reached_new steps_new × (slice_get reached_new.found number ≡ Some state) × Contains reached_new.found t × ((k : ℕ) → Contains reached.found k → Contains reached_new.found k)
    search_adds reached_new steps_new adds = elim adds [
      | inl old ↦ (
        subst (λ r. IsSearch d number r steps_new) (sym old.1) (subst (IsSearch d number reached) (sym old.2) e),
        subst (λ r. slice_get r.found number ≡ Some state) (sym old.1) at,
        subst (λ r. Contains r.found t) (sym old.1) old.0,
        λ k h. subst (λ r. Contains r.found k) (sym old.1) h,
      )
      | inr fresh ↦ (
        subst (λ r. IsSearch d number r steps_new) (sym fresh.0) (subst (IsSearch d number more) (sym fresh.1) search_add),
        subst (λ r. slice_get r.found number ≡ Some state) (sym fresh.0) (push_old reached.found t number state at),
        subst (λ r. Contains r.found t) (sym fresh.0) (Contains-push reached.found t),
        λ k h. subst (λ r. Contains r.found k) (sym fresh.0) (Contains-append_left reached.found (t ∷ []) k h),
      )
    ]

  -- the next state is looked at
  pub search_more : (number : ℕ) (reached : Marks) (steps : List (Option Step)) (state : ℕ) → IsSearch d number reached steps → slice_get reached.found number ≡ Some state → HasNext d state (length d.letters) reached.found → (slice_get d.finals state ≡ Some true → ⊥) → IsSearch d (number + 1) reached steps
  search_more number reached steps state e at next other = record {
    words = e.words;
    are_words = e.are_words;
    bound = e.bound;
    within = e.within;
    count = e.count;
    start = e.start;
    start_word = e.start_word;
    leads = e.leads;
    order = e.order;
    ahead = λ j v w v_at w_at.
        let u = here in
        let a = e.ahead j u.0 w u.1 w_at in
        let b = e.order number (number + 1) u.0 v (omega arith) u.1 v_at in
        omega arith;
    closed = λ i s k t v l s_at v_at inside goes. elim (cases_lt i number) [
      | inl before ↦ e.closed i s k t v before s_at v_at inside goes
      | inr past ↦
          let same : i ≡ number = omega arith in
          let state_is : state ≡ s = same_at reached.found number state s at (subst (λ j. slice_get reached.found j ≡ Some s) same s_at) in
          let found = slice_get_from_Contains reached.found t (next k t inside (subst (λ q. next_state d q k ≡ Some t) (sym state_is) goes)) in
          let w = at_of e.words found.0 (let l = slice_get_within reached.found found.0 t found.1 in let n = words_count in omega arith) in
          (found.0, w.0, found.1, w.1, e.ahead found.0 v w.0 (subst (λ j. slice_get e.words j ≡ Some v) same v_at) w.1)
    ];
    not_final = λ i s l s_at final. elim (cases_lt i number) [
      | inl before ↦ e.not_final i s before s_at final
      | inr past ↦
          let same : i ≡ number = omega arith in
          let state_is : state ≡ s = same_at reached.found number state s at (subst (λ j. slice_get reached.found j ≡ Some s) same s_at) in
          other (subst (λ q. slice_get d.finals q ≡ Some true) (sym state_is) final)
    ];
  }
    where
      words_count : length e.words ≡ length reached.found
      words_count = e.are_words.count ∙ e.count

      here : (v : List L) × (slice_get e.words number ≡ Some v)
      here = at_of e.words number (let l = slice_get_within reached.found number state at in let n = words_count in omega arith)

  -- each state was looked at, and none is final
  module _ (number : ℕ) (reached : Marks) (steps : List (Option Step)) (e : IsSearch d number reached steps) where
    words_here : length e.words ≡ length reached.found
    words_here = e.are_words.count ∙ e.count

    never : length reached.found ≤ number → {s : ℕ} {w : List L} → AcceptsFrom d s w → (i : ℕ) → slice_get reached.found i ≡ Some s → ⊥
    never past {s} (stop h) i at = e.not_final i s (let l = slice_get_within reached.found i s at in omega arith) at h
    never past {s} (read {t = t} k letter goes rest) i at =
        let l = slice_get_within reached.found i s at in
        let v = at_of e.words i (let n = words_here in omega arith) in
        let r = e.closed i s k t v.0 (omega arith) at v.1 (slice_get_within d.letters k _ letter) goes in
        never past rest r.0 r.2

    pub search_none : length reached.found ≤ number → (w : List L) → ¬ Accepts d w
    search_none past w h = never past h 0 e.start

    -- the state that is looked at is final
    module _ (state : ℕ) (at : slice_get reached.found number ≡ Some state) (final : slice_get d.finals state ≡ Some true) (word : List L) (word_at : slice_get e.words number ≡ Some word) where
      farther : {s : ℕ} {u : List L} → AcceptsFrom d s u → (i : ℕ) (v : List L) → slice_get reached.found i ≡ Some s → slice_get e.words i ≡ Some v → length word ≤ length v + length u
      farther {s} (stop h) i v s_at v_at = elim (cases_lt i number) [
        | inl before ↦ absurd (e.not_final i s before s_at h)
        | inr past ↦ let o = e.order number i word v past word_at v_at in omega arith
      ]
      farther {s} (read {t = t} {w = u} k letter goes rest) i v s_at v_at = elim (cases_lt i number) [
        | inl before ↦
            let r = e.closed i s k t v before s_at v_at (slice_get_within d.letters k _ letter) goes in
            let f = farther rest r.0 r.1 r.2 r.3 in
            let near : length r.1 ≤ length v + 1 = r.4 in
            omega arith
        | inr past ↦ let o = e.order number i word v past word_at v_at in omega arith
      ]

      shortest_here : IsShortest d word
      shortest_here = record {
        accepted = subst (Accepts d) (append-nil word) (e.leads number state word [] at word_at (stop final));
        least = λ w h. let f = farther h 0 [] e.start e.start_word in omega arith;
      }

    pub search_hit : (state : ℕ) → slice_get reached.found number ≡ Some state → slice_get d.finals state ≡ Some true → EndsShortest d steps number
    search_hit state at final =
        let word = at_of e.words number (let l = slice_get_within reached.found number state at in let n = words_here in omega arith) in
        (e.words, e.are_words, (word.0, word.1, shortest_here state at final word.0 word.1))
