-- Breadth-first search: states that are found in the order of their distance from the start, and the words by
-- which they were found.
use Rattle.std.proofs.Common.{◌≡◌, ℕ, zero, suc, ◌+◌, ◌<◌, ◌≤◌, ◌⊎◌, ◌↔◌, List, [], ◌∷◌, ◌++◌, Option, Some, None, length, refl, subst, sym, ap, inl, inr, arith, ◌∙◌, append_assoc}
use Rattle.std.specs.List.{slice_get, Contains}
use Rattle.std.proofs.lemmas.Option.{slice_get_within, same_Some, none-some}
use Rattle.std.proofs.lemmas.List.{append-nil, length_push}
use Rattle.std.proofs.lemmas.List.Elements.{Contains-append_left, Contains-push}
use Rattle.std.proofs.lemmas.Bool.{cases_lt}
use Rattle.word_relations.proofs.Places.{slice_get-append_left, slice_get-append_cases, slice_get-push, same_at, slice_get_from_Contains}
use Rattle.lang_equal.specs.Difference.{IsShortest}
use Rattle.lang_equal.specs.Search.{AreWordsOf, IsSearch}
use Rattle.lang_equal.specs.declared.search.Step.{Step}

-- what stands at a place that is there
pub at_of : {X : Type 0} (xs : List X) (k : ℕ) → k < length xs → (x : X) × (slice_get xs k ≡ Some x)
at_of [] k l = absurd (omega arith)
at_of (x ∷ xs) zero l = (x, refl)
at_of (x ∷ xs) (suc k) l = at_of xs k (omega arith)

-- a place of a list to which one element was added
push_cases : {X : Type 0} (xs : List X) (y : X) (k : ℕ) (x : X) → slice_get (xs ++ y ∷ []) k ≡ Some x → (slice_get xs k ≡ Some x) ⊎ ((k ≡ length xs) × (y ≡ x))
push_cases xs y k x at = elim (slice_get-append_cases xs (y ∷ []) k x at) [
  | inl old ↦ inl old
  | inr (zero, is, this) ↦ inr (omega arith, same_Some y x this)
  | inr (suc j, is, this) ↦ let past : slice_get [] j ≡ Some x = this in absurd (cc)
]

push_old : {X : Type 0} (xs : List X) (y : X) (k : ℕ) (x : X) → slice_get xs k ≡ Some x → slice_get (xs ++ y ∷ []) k ≡ Some x
push_old xs y k x at = slice_get-append_left xs (y ∷ []) k (slice_get_within xs k x at) ∙ at

-- the words of each state, by what letters lead to: the empty word of a final one, and those that begin with a letter
pub record AreWords {S L : Type 0} (letters : List L) (IsState : S → Type 0) (Leads : S → ℕ → S → Type 0) (IsFinal : S → Type 0) (Words : S → List L → Type 0) : Type 0 where
  pub empty : (s : S) → IsState s → Words s [] ↔ IsFinal s
  pub longer : (s t : S) (k : ℕ) (x : L) (w : List L) → IsState s → Leads s k t → slice_get letters k ≡ Some x → Words s (x ∷ w) ↔ Words t w
  pub over : (s : S) (x : L) (w : List L) → IsState s → Words s (x ∷ w) → Contains letters x
  pub next : (s : S) (k : ℕ) → IsState s → k < length letters → (t : S) × Leads s k t

module _ {S L : Type 0} (letters : List L) (start : S) (IsState : S → Type 0) (Leads : S → ℕ → S → Type 0) (IsFinal : S → Type 0) (Words : S → List L → Type 0) where
  abbrev Searched : ℕ → List S → List (Option Step) → Type 0
  Searched number found steps = IsSearch letters start IsState Leads IsFinal Words number found steps

  -- the start alone
  pub search_start : IsState start → (found : List S) (steps : List (Option Step)) → found ≡ start ∷ [] → steps ≡ None ∷ [] → Searched 0 found steps
  search_start there found steps is_found is_steps =
      subst (λ f. Searched 0 f steps) (sym is_found) (subst (λ s. Searched 0 (start ∷ []) s) (sym is_steps) first)
    where
      only_root : (i : ℕ) (step : Step) → slice_get (None ∷ []) i ≡ Some (Some step) → ⊥
      only_root zero step at = none-some step (same_Some None (Some step) at)
      only_root (suc i) step at = let past : slice_get {X = Option Step} [] i ≡ Some (Some step) = at in absurd (cc)

      one_word : (i : ℕ) (w : List L) → slice_get ([] ∷ []) i ≡ Some w → [] ≡ w
      one_word zero w at = same_Some [] w at
      one_word (suc i) w at = let past : slice_get {X = List L} [] i ≡ Some w = at in absurd (cc)

      one_state : (i : ℕ) (s : S) → slice_get (start ∷ []) i ≡ Some s → start ≡ s
      one_state zero s at = same_Some start s at
      one_state (suc i) s at = let past : slice_get {X = S} [] i ≡ Some s = at in absurd (cc)

      root_word : (i : ℕ) → slice_get {X = Option Step} (None ∷ []) i ≡ Some None → slice_get {X = List L} ([] ∷ []) i ≡ Some []
      root_word zero at = refl
      root_word (suc i) at = let past : slice_get {X = Option Step} [] i ≡ Some None = at in absurd (cc)

      first : Searched 0 (start ∷ []) (None ∷ [])
      first = record {
        words = [] ∷ [];
        are_words = record { count = refl; root = root_word; longer = λ i step at. absurd (only_root i step at) };
        within = λ i s at. subst IsState (one_state i s at) there;
        count = refl;
        start_first = refl;
        start_word = refl;
        leads = λ i s w v s_at w_at h. subst (λ u. Words start (u ++ v)) (one_word i w w_at) (subst (λ p. Words p v) (sym (one_state i s s_at)) h);
        order = λ i j v w le v_at w_at. let a : 0 ≡ length v = ap length (one_word i v v_at) in omega arith;
        ahead = λ j v w v_at w_at. let a : 0 ≡ length w = ap length (one_word j w w_at) in omega arith;
        closed = λ i s k t v l. absurd (omega arith);
        not_final = λ i s l. absurd (omega arith);
      }

  -- a state that wasn't found before, by a letter from the one that is looked at
  module _ (laws : AreWords letters IsState Leads IsFinal Words) (number : ℕ) (found : List S) (steps : List (Option Step)) (e : Searched number found steps) (state : S) (at : slice_get found number ≡ Some state) (place : ℕ) (t : S) (x : L) (letter : slice_get letters place ≡ Some x) (goes : Leads state place t) (t_there : IsState t) where
    abbrev step : Step
    step = record { before = number; place = place }

    abbrev more : List S
    more = found ++ t ∷ []

    abbrev more_steps : List (Option Step)
    more_steps = steps ++ Some step ∷ []

    words_count : length e.words ≡ length found
    words_count = e.are_words.count ∙ e.count

    here : (v : List L) × (slice_get e.words number ≡ Some v)
    here = at_of e.words number (let l = slice_get_within found number state at in let n = words_count in omega arith)

    abbrev new_word : List L → List L
    new_word v = v ++ x ∷ []

    abbrev more_words : List L → List (List L)
    more_words v = e.words ++ new_word v ∷ []

    module _ (v : List L) (v_at : slice_get e.words number ≡ Some v) where
      long : length (new_word v) ≡ length v + 1
      long = length_push v x

      number_old : number < length found
      number_old = slice_get_within found number state at

      words_are : AreWordsOf letters more_steps (more_words v)
      words_are = record {
        count = length_push e.words (new_word v) ∙ ap (λ n. n + 1) e.are_words.count ∙ sym (length_push steps (Some step));
        root = λ i none. elim (push_cases steps (Some step) i None none) [
          | inl old ↦ push_old e.words (new_word v) i [] (e.are_words.root i old)
          | inr fresh ↦ absurd (none-some step (sym fresh.1))
        ];
        longer = λ i s some. elim (push_cases steps (Some step) i (Some s) some) [
          | inl old ↦
              let r = e.are_words.longer i s old in
              let b = r.1 in
              (r.0, (b.0, b.1, b.2, push_old e.words (new_word v) s.before b.1 b.3, push_old e.words (new_word v) i (b.1 ++ b.0 ∷ []) b.4))
          | inr fresh ↦
              let same : step ≡ s = same_Some step s fresh.1 in
              let place_same : place ≡ s.place = ap (λ q. q.place) same in
              let number_same : number ≡ s.before = ap (λ q. q.before) same in
              let i_is : length e.words ≡ i = e.are_words.count ∙ sym fresh.0 in
              let n = number_old in
              let c = e.count in
              let before : s.before < i = let f : i ≡ length steps = fresh.0 in omega arith in (
                before,
                (
                  x,
                  v,
                  subst (λ p. slice_get letters p ≡ Some x) place_same letter,
                  subst (λ k. slice_get (more_words v) k ≡ Some v) number_same (push_old e.words (new_word v) number v v_at),
                  subst (λ k. slice_get (more_words v) k ≡ Some (new_word v)) i_is (slice_get-push e.words (new_word v)),
                ),
              )
        ];
      }

      -- what a place holds, old or new
      word_bound : (j : ℕ) (w : List L) → slice_get (more_words v) j ≡ Some w → length w ≤ length v + 1
      word_bound j w w_at = elim (push_cases e.words (new_word v) j w w_at) [
        | inl old ↦ e.ahead j v w v_at old
        | inr fresh ↦ let a = ap length fresh.1 in let b = long in omega arith
      ]

      leads_more : (i : ℕ) (s : S) (w u : List L) → slice_get (found ++ t ∷ []) i ≡ Some s → slice_get (more_words v) i ≡ Some w → Words s u → Words start (w ++ u)
      leads_more i s w u s_at w_at h = elim (push_cases found t i s s_at) [
        | inl old ↦ elim (push_cases e.words (new_word v) i w w_at) [
          | inl word_old ↦ e.leads i s w u old word_old h
          | inr fresh ↦
              let l = slice_get_within found i s old in
              let n = words_count in
              let i_is : i ≡ length e.words = fresh.0 in
              absurd (omega arith)
        ]
        | inr fresh ↦ elim (push_cases e.words (new_word v) i w w_at) [
          | inl word_old ↦
              let l = slice_get_within e.words i w word_old in
              let n = words_count in
              let i_is : i ≡ length found = fresh.0 in
              absurd (omega arith)
          | inr word_fresh ↦
              let from_t : Words t u = subst (λ p. Words p u) (sym fresh.1) h in
              let from_here : Words state (x ∷ u) = (laws.longer state t place x u (e.within number state at) goes letter).1 from_t in
              let whole : Words start (v ++ (x ∷ u)) = e.leads number state v (x ∷ u) at v_at from_here in
              let joined : v ++ (x ∷ u) ≡ (v ++ x ∷ []) ++ u = sym (append_assoc v (x ∷ []) u) in
              subst (λ z. Words start (z ++ u)) word_fresh.1 (subst (Words start) joined whole)
        ]
      ]

      order_more : (i j : ℕ) (u w : List L) → i ≤ j → slice_get (more_words v) i ≡ Some u → slice_get (more_words v) j ≡ Some w → length u ≤ length w
      order_more i j u w le u_at w_at = elim (push_cases e.words (new_word v) j w w_at) [
        | inl w_old ↦ elim (push_cases e.words (new_word v) i u u_at) [
          | inl u_old ↦ e.order i j u w le u_old w_old
          | inr fresh ↦ let l = slice_get_within e.words j w w_old in let i_is : i ≡ length e.words = fresh.0 in absurd (omega arith)
        ]
        | inr w_fresh ↦
            let a = word_bound i u u_at in
            let b : length (new_word v) ≡ length w = ap length w_fresh.1 in
            let c = long in
            omega arith
      ]

      closed_more : (i : ℕ) (s : S) (k : ℕ) (q : S) (u : List L) → i < number → slice_get (found ++ t ∷ []) i ≡ Some s → slice_get (more_words v) i ≡ Some u → k < length letters → Leads s k q
          → (j : ℕ) × (w : List L) × (slice_get (found ++ t ∷ []) j ≡ Some q) × (slice_get (more_words v) j ≡ Some w) × (length w ≤ length u + 1)
      closed_more i s k q u before s_at u_at inside go = elim (push_cases found t i s s_at) [
        | inl s_old ↦ elim (push_cases e.words (new_word v) i u u_at) [
          | inl u_old ↦
              let r = e.closed i s k q u before s_old u_old inside go in
              (r.0, r.1, push_old found t r.0 q r.2, push_old e.words (new_word v) r.0 r.1 r.3, r.4)
          | inr fresh ↦ let n = number_old in let c = words_count in let i_is : i ≡ length e.words = fresh.0 in absurd (omega arith)
        ]
        | inr fresh ↦ let n = number_old in let i_is : i ≡ length found = fresh.0 in absurd (omega arith)
      ]

      not_final_more : (i : ℕ) (s : S) → i < number → slice_get (found ++ t ∷ []) i ≡ Some s → IsFinal s → ⊥
      not_final_more i s before s_at final = elim (push_cases found t i s s_at) [
        | inl s_old ↦ e.not_final i s before s_old final
        | inr fresh ↦ let n = number_old in let i_is : i ≡ length found = fresh.0 in absurd (omega arith)
      ]

      search_add_at : Searched number more more_steps
      search_add_at = record {
        words = more_words v;
        are_words = words_are;
        within = λ i s s_at. elim (push_cases found t i s s_at) [ inl old ↦ e.within i s old | inr fresh ↦ subst IsState fresh.1 t_there ];
        count = length_push steps (Some step) ∙ ap (λ n. n + 1) e.count ∙ sym (length_push found t);
        start_first = push_old found t 0 start e.start_first;
        start_word = push_old e.words (new_word v) 0 [] e.start_word;
        leads = leads_more;
        order = order_more;
        ahead = λ j u w u_at w_at.
            let same : v ≡ u = same_at (more_words v) number v u (push_old e.words (new_word v) number v v_at) u_at in
            let a = ap length same in
            let b = word_bound j w w_at in
            omega arith;
        closed = closed_more;
        not_final = not_final_more;
      }

    search_add : Searched number more more_steps
    search_add = search_add_at here.0 here.1

    -- what reaching the state leaves
    pub search_adds : (found_new : List S) (steps_new : List (Option Step)) → (Contains found t × (found_new ≡ found) × (steps_new ≡ steps)) ⊎ ((found_new ≡ found ++ t ∷ []) × (steps_new ≡ steps ++ Some step ∷ []))
        → Searched number found_new steps_new × (slice_get found_new number ≡ Some state) × Contains found_new t × ((q : S) → Contains found q → Contains found_new q)
    search_adds found_new steps_new adds = elim adds [
      | inl old ↦ (
        subst (λ f. Searched number f steps_new) (sym old.1) (subst (Searched number found) (sym old.2) e),
        subst (λ f. slice_get f number ≡ Some state) (sym old.1) at,
        subst (λ f. Contains f t) (sym old.1) old.0,
        λ q h. subst (λ f. Contains f q) (sym old.1) h,
      )
      | inr fresh ↦ (
        subst (λ f. Searched number f steps_new) (sym fresh.0) (subst (Searched number more) (sym fresh.1) search_add),
        subst (λ f. slice_get f number ≡ Some state) (sym fresh.0) (push_old found t number state at),
        subst (λ f. Contains f t) (sym fresh.0) (Contains-push found t),
        λ q h. subst (λ f. Contains f q) (sym fresh.0) (Contains-append_left found (t ∷ []) q h),
      )
    ]

  -- the next state is looked at
  pub search_more : (number : ℕ) (found : List S) (steps : List (Option Step)) (state : S) → Searched number found steps → slice_get found number ≡ Some state → ((k : ℕ) (t : S) → k < length letters → Leads state k t → Contains found t) → (IsFinal state → ⊥) → Searched (number + 1) found steps
  search_more number found steps state e at next other = record {
    words = e.words;
    are_words = e.are_words;
    within = e.within;
    count = e.count;
    start_first = e.start_first;
    start_word = e.start_word;
    leads = e.leads;
    order = e.order;
    ahead = λ j v w v_at w_at.
        let u = here in
        let a = e.ahead j u.0 w u.1 w_at in
        let b = e.order number (number + 1) u.0 v (omega arith) u.1 v_at in
        omega arith;
    closed = λ i s k t v l s_at v_at inside goes. elim (cases_lt i number) [
      | inl before ↦ e.closed i s k t v before s_at v_at inside goes
      | inr past ↦
          let same : i ≡ number = omega arith in
          let state_is : state ≡ s = same_at found number state s at (subst (λ j. slice_get found j ≡ Some s) same s_at) in
          let there = slice_get_from_Contains found t (next k t inside (subst (λ q. Leads q k t) (sym state_is) goes)) in
          let w = at_of e.words there.0 (let l = slice_get_within found there.0 t there.1 in let n = words_count in omega arith) in
          (there.0, w.0, there.1, w.1, e.ahead there.0 v w.0 (subst (λ j. slice_get e.words j ≡ Some v) same v_at) w.1)
    ];
    not_final = λ i s l s_at final. elim (cases_lt i number) [
      | inl before ↦ e.not_final i s before s_at final
      | inr past ↦
          let same : i ≡ number = omega arith in
          let state_is : state ≡ s = same_at found number state s at (subst (λ j. slice_get found j ≡ Some s) same s_at) in
          other (subst IsFinal (sym state_is) final)
    ];
  }
    where
      words_count : length e.words ≡ length found
      words_count = e.are_words.count ∙ e.count

      here : (v : List L) × (slice_get e.words number ≡ Some v)
      here = at_of e.words number (let l = slice_get_within found number state at in let n = words_count in omega arith)

  -- each state was looked at, and none is final
  module _ (laws : AreWords letters IsState Leads IsFinal Words) (number : ℕ) (found : List S) (steps : List (Option Step)) (e : Searched number found steps) where
    words_here : length e.words ≡ length found
    words_here = e.are_words.count ∙ e.count

    never : length found ≤ number → (w : List L) (s : S) → Words s w → (i : ℕ) → slice_get found i ≡ Some s → ⊥
    never past [] s h i at = e.not_final i s (let l = slice_get_within found i s at in omega arith) at ((laws.empty s (e.within i s at)).0 h)
    never past (x ∷ w) s h i at =
        let is : IsState s = e.within i s at in
        let k = slice_get_from_Contains letters x (laws.over s x w is h) in
        let inside : k.0 < length letters = slice_get_within letters k.0 x k.1 in
        let t = laws.next s k.0 is inside in
        let l = slice_get_within found i s at in
        let v = at_of e.words i (let n = words_here in omega arith) in
        let r = e.closed i s k.0 t.0 v.0 (omega arith) at v.1 inside t.1 in
        never past w t.0 ((laws.longer s t.0 k.0 x w is t.1 k.1).0 h) r.0 r.2

    pub search_none : length found ≤ number → (w : List L) → ¬ Words start w
    search_none past w h = never past w start h 0 e.start_first

    -- the state that is looked at is final
    module _ (state : S) (at : slice_get found number ≡ Some state) (final : IsFinal state) (word : List L) (word_at : slice_get e.words number ≡ Some word) where
      farther : (u : List L) (s : S) → Words s u → (i : ℕ) (v : List L) → slice_get found i ≡ Some s → slice_get e.words i ≡ Some v → length word ≤ length v + length u
      farther [] s h i v s_at v_at = elim (cases_lt i number) [
        | inl before ↦ absurd (e.not_final i s before s_at ((laws.empty s (e.within i s s_at)).0 h))
        | inr past ↦ let o = e.order number i word v past word_at v_at in omega arith
      ]
      farther (x ∷ u) s h i v s_at v_at = elim (cases_lt i number) [
        | inl before ↦
            let is : IsState s = e.within i s s_at in
            let k = slice_get_from_Contains letters x (laws.over s x u is h) in
            let inside : k.0 < length letters = slice_get_within letters k.0 x k.1 in
            let t = laws.next s k.0 is inside in
            let r = e.closed i s k.0 t.0 v before s_at v_at inside t.1 in
            let f = farther u t.0 ((laws.longer s t.0 k.0 x u is t.1 k.1).0 h) r.0 r.1 r.2 r.3 in
            let near : length r.1 ≤ length v + 1 = r.4 in
            omega arith
        | inr past ↦ let o = e.order number i word v past word_at v_at in omega arith
      ]

      shortest_here : IsShortest (Words start) word
      shortest_here = record {
        inside = subst (Words start) (append-nil word) (e.leads number state word [] at word_at ((laws.empty state (e.within number state at)).1 final));
        least = λ w h. let f = farther w start h 0 [] e.start_first e.start_word in omega arith;
      }

    pub search_hit : (state : S) → slice_get found number ≡ Some state → IsFinal state → (words : List (List L)) × AreWordsOf letters steps words × ((word : List L) × (slice_get words number ≡ Some word) × IsShortest (Words start) word)
    search_hit state at final =
        let word = at_of e.words number (let l = slice_get_within found number state at in let n = words_here in omega arith) in
        (e.words, e.are_words, (word.0, word.1, shortest_here state at final word.0 word.1))
