-- Marks that are set one by one, and the parts of a word round a place.
use Rattle.std.proofs.Common.{◌≡◌, ◌<◌, ◌≤◌, ◌+◌, ◌-◌, ◌↔◌, ◌⊎◌, ℕ, Bool, true, false, List, [], ◌∷◌, ◌++◌, Some, IsTrue, length, take, drop, set, reverse, refl, sym, ap, subst, ◌∙◌, inl, inr, arith, below_more, ◌&&◌, cond, get_or, add-one, take-append-drop, length-drop, length-set}
use Rattle.std.specs.List.{slice_get, Contains}
use Rattle.std.proofs.lemmas.List.{take_at, take-map, reverse-append, length-map, length-reverse}
use Rattle.std.proofs.lemmas.Option.{same_Some, slice_get-get_or, slice_get_within}
use Rattle.std.proofs.lemmas.List.Elements.{Contains-push, Contains-push_cases, Contains-append_left}
use Rattle.word_relations.proofs.Places.{slice_get-set_same, slice_get-set_other}
use Rattle.word_relations.proofs.Members.{Contains-nil_cases}
use Rattle.fsm_base.specs.declared.letters.Pair.{Pair}
use Rattle.fsm_base.specs.declared.letters.Bound.{Bound}
use Rattle.fsm_base.specs.declared.letters.Bound.TheVariants.{Edge, Inner}
use Rattle.fsa.specs.Complete.{Accepts}
use Rattle.expr_meaning.specs.Operators.{inner}
use Rattle.pair_test.specs.Marks.{AreAt, AreMarks, IsMarked}
use Rattle.pair_test.specs.Tests.{HoldsOne, HoldsRound, IsMarkedOr, Fits}
use Rattle.pair_test.proofs.Running.{there}
use Rattle.pair_test.specs.declared.ready.ContextTest.{ContextTest}
use Rattle.pair_test.specs.declared.spelled.Spelled.{Spelled}

-- the marks below n say what holds, and the others are as before
pub record AreMarkedBelow (P : ℕ → Type 0) (n : ℕ) (old new : List Bool) : Type 0 where
  pub count : length new ≡ length old
  pub done : (k : ℕ) → k < n → IsMarked new k ↔ P k
  pub rest : (k : ℕ) → n ≤ k → slice_get new k ≡ slice_get old k

module _ (H : ℕ → Type 0) (old : List Bool) where
  abbrev Or : ℕ → Type 0
  Or k = IsMarked old k ⊎ H k

  pub marked_start : AreMarkedBelow Or 0 old old
  marked_start = record { count = refl; done = λ k less. absurd (omega (arith, less)); rest = λ k more. refl }

  pub marked_yes : (n : ℕ) (new : List Bool) → n < length new → AreMarkedBelow Or n old new → H n → AreMarkedBelow Or (n + 1) old (set new n true)
  marked_yes n new within are here =
      record {
        count = length-set new n true ∙ are.count;
        done = below_more (λ k. IsMarked (set new n true) k ↔ Or k) n before (λ h. inr here, λ h. slice_get-set_same new n true within);
        rest = λ k more. slice_get-set_other new n k true (omega (arith, more)) ∙ are.rest k (omega (arith, more));
      }
    where
      before : (k : ℕ) → k < n → IsMarked (set new n true) k ↔ Or k
      before k less =
          let kept : slice_get (set new n true) k ≡ slice_get new k = slice_get-set_other new n k true (omega (arith, less)) in
          let was = are.done k less in
          (λ h. was.0 (sym kept ∙ h), λ h. kept ∙ was.1 h)

  pub marked_no : (n : ℕ) (new : List Bool) → AreMarkedBelow Or n old new → (H n → ⊥) → AreMarkedBelow Or (n + 1) old new
  marked_no n new are not_here =
      record {
        count = are.count;
        done = below_more (λ k. IsMarked new k ↔ Or k) n are.done (λ h. inl (sym (are.rest n (omega arith)) ∙ h), here);
        rest = λ k more. are.rest k (omega (arith, more));
      }
    where
      here : Or n → IsMarked new n
      here h = elim h as (λ _. IsMarked new n) [
        | inl marked ↦ are.rest n (omega arith) ∙ marked
        | inr holds ↦ absurd (not_here holds)
      ]

  pub marked_all : (n : ℕ) (new : List Bool) → length old ≤ n → AreMarkedBelow Or n old new → AreMarks Or (length old) new
  marked_all n new most are = record { count = are.count; each = λ k less. are.done k (omega (arith, less, most)) }

-- the mark at a place, read
mark_at : (marks : List Bool) (k : ℕ) (d : Bool) → k < length marks → IsTrue (get_or marks k d) ↔ IsMarked marks k
mark_at marks k d within =
    let read = slice_get-get_or marks k d within in
    (λ e. read ∙ ap Some e, λ marked. same_Some (get_or marks k d) true (sym read ∙ marked))

both_true : (a b : Bool) → IsTrue (a && b) ↔ (IsTrue a × IsTrue b)
both_true true true = (λ e. (refl, refl), λ e. refl)
both_true true false = (λ e. let clash : false ≡ true = e in cc, λ e. e.1)
both_true false b = (λ e. let clash : false ≡ true = e in cc, λ e. e.0)

module _ (before behind old : List Bool) (count : ℕ) where
  abbrev pub BothAt : ℕ → Type 0
  BothAt k = IsMarked before k × IsMarked behind (count - 1 - k)

  -- one place more
  pub marked_more : (n : ℕ) (new next : List Bool) (d e : Bool) → n < count → count ≤ length before → count ≤ length behind → length old ≡ count → AreMarkedBelow (λ k. IsMarked old k ⊎ BothAt k) n old new
      → next ≡ cond (get_or before n d && get_or behind (count - 1 - n) e) (set new n true) new → AreMarkedBelow (λ k. IsMarked old k ⊎ BothAt k) (n + 1) old next
  marked_more n new next d e less first second long are is = by (get_or before n d && get_or behind (count - 1 - n) e) refl
    where
      same : IsTrue (get_or before n d && get_or behind (count - 1 - n) e) ↔ BothAt n
      same =
          let a = mark_at before n d (omega (arith, less, first)) in
          let b = mark_at behind (count - 1 - n) e (omega (arith, less, second)) in
          let c = both_true (get_or before n d) (get_or behind (count - 1 - n) e) in
          (λ h. let r = c.0 h in (a.0 r.0, b.0 r.1), λ h. c.1 (a.1 h.0, b.1 h.1))

      by : (holds : Bool) → get_or before n d && get_or behind (count - 1 - n) e ≡ holds → AreMarkedBelow (λ k. IsMarked old k ⊎ BothAt k) (n + 1) old next
      by true holds =
          let set_is : next ≡ set new n true = is ∙ ap (λ b. cond b (set new n true) new) holds in
          let within : n < length new = let c : length new ≡ length old = are.count in omega (arith, c, long, less) in
          subst (AreMarkedBelow (λ k. IsMarked old k ⊎ BothAt k) (n + 1) old) (sym set_is) (marked_yes BothAt old n new within are (same.0 holds))
      by false holds =
          let left : next ≡ new = is ∙ ap (λ b. cond b (set new n true) new) holds in
          subst (AreMarkedBelow (λ k. IsMarked old k ⊎ BothAt k) (n + 1) old) (sym left) (marked_no BothAt old n new are (λ h. let clash : false ≡ true = sym holds ∙ same.1 h in cc))

-- the beginning of a word that is read backwards is its end, read backwards
pub take_reverse : {X : Type 0} (xs : List X) (i j : ℕ) → i + j ≡ length xs → take j (reverse xs) ≡ reverse (drop i xs)
take_reverse xs i j is =
    let parts : reverse xs ≡ reverse (drop i xs) ++ reverse (take i xs) = ap reverse (sym (take-append-drop i xs)) ∙ reverse-append (take i xs) (drop i xs) in
    let long : length (reverse (drop i xs)) ≡ j = length-reverse (drop i xs) ∙ length-drop i xs ∙ omega (arith, is) in
    ap (take j) parts ∙ take_at (reverse (drop i xs)) (reverse (take i xs)) j long

-- so many letters of a word behind an edge
pub take_edge : (k : ℕ) (w : List Pair) → take (k + 1) (Edge ∷ inner w) ≡ Edge ∷ inner (take k w)
take_edge k w = ap (λ n. take n (Edge ∷ inner w)) (add-one k) ∙ ap (λ z. Edge ∷ z) (take-map Inner k w)

-- whether a context holds round a filling, by the marks of its two automata
module _ (t : ContextTest) (s : Spelled) (width k j : ℕ) (before behind : List Bool)
    (first : AreMarks (λ i. Accepts t.before (take (i + 1) (Edge ∷ inner s.word.now))) (length (Edge ∷ inner s.word.now)) before)
    (second : AreMarks (λ i. Accepts t.behind (take (i + 1) (Edge ∷ inner (reverse s.word.now)))) (length (Edge ∷ inner (reverse s.word.now))) behind)
    (is : (k + width) + j ≡ length s.word.now) (inside_first : k < length before) (inside_second : j < length behind) where
  pub round_first : IsMarked before k ↔ Accepts t.before (Edge ∷ inner (take k s.word.now))
  round_first =
      let marks = first.each k (let c = first.count in omega (arith, c, inside_first)) in
      let e = take_edge k s.word.now in
      (λ h. subst (Accepts t.before) e (marks.0 h), λ h. marks.1 (subst (Accepts t.before) (sym e) h))

  pub round_second : IsMarked behind j ↔ Accepts t.behind (Edge ∷ inner (reverse (drop (k + width) s.word.now)))
  round_second =
      let marks = second.each j (let c = second.count in omega (arith, c, inside_second)) in
      let e : take (j + 1) (Edge ∷ inner (reverse s.word.now)) ≡ Edge ∷ inner (reverse (drop (k + width) s.word.now)) =
      take_edge j (reverse s.word.now) ∙ ap (λ z. Edge ∷ inner z) (take_reverse s.word.now (k + width) j is) in
      (λ h. subst (Accepts t.behind) e (marks.0 h), λ h. marks.1 (subst (Accepts t.behind) (sym e) h))

  pub round_both : (IsMarked before k × IsMarked behind j) ↔ HoldsOne t (take k s.word.now) (drop (k + width) s.word.now)
  round_both = (λ h. (round_first.0 h.0, round_second.0 h.1), λ h. (round_first.1 h.0, round_second.1 h.1))

-- the places of a string's letters among those of the automata of a context
pub at_first : (s : Spelled) (t : ContextTest) → Fits s t → AreAt t.before.letters s.forwards.items (Edge ∷ inner s.word.now)
at_first s t (letters, spelled, first, second) = subst (λ (z : List (Bound Pair)). AreAt z s.forwards.items (Edge ∷ inner s.word.now)) (sym first) spelled.forwards

pub at_second : (s : Spelled) (t : ContextTest) → Fits s t → AreAt t.behind.letters s.backwards.items (Edge ∷ inner (reverse s.word.now))
at_second s t (letters, spelled, first, second) = subst (λ (z : List (Bound Pair)). AreAt z s.backwards.items (Edge ∷ inner (reverse s.word.now))) (sym second) spelled.backwards

pub places_within : {L : Type 0} (letters : List L) (places : List ℕ) (word : List L) → AreAt letters places word → (k d : ℕ) → k < length places → get_or places k d < length letters
places_within letters places word are k d less =
    let c : length places ≡ length word = are.count in
    let x = there word k (omega (arith, c, less)) in
    slice_get_within letters (get_or places k d) x.0 (are.each k (get_or places k d) (slice_get-get_or places k d less) ∙ x.1)

-- the marks of the two automata of a context, put together
pub context_marked : (t : ContextTest) (s : Spelled) (width count : ℕ) (before behind old new : List Bool)
    → AreMarks (λ i. Accepts t.before (take (i + 1) (Edge ∷ inner s.word.now))) (length (Edge ∷ inner s.word.now)) before
    → AreMarks (λ i. Accepts t.behind (take (i + 1) (Edge ∷ inner (reverse s.word.now)))) (length (Edge ∷ inner (reverse s.word.now))) behind
    → length old ≡ count → length old + width ≡ length s.word.now + 1 → AreMarks (λ k. IsMarked old k ⊎ (IsMarked before k × IsMarked behind (count - 1 - k))) count new
    → AreMarks (IsMarkedOr s.word.now width old t) (length old) new
context_marked t s width count before behind old new first second long wide are =
    record {
      count = are.count ∙ sym long;
      each = λ k less. (
        λ h. elim ((are.each k (omega (arith, long, less))).0 h) as (λ _. IsMarkedOr s.word.now width old t k) [
          | inl marked ↦ inl marked
          | inr both ↦ inr ((round k less).0 both)
        ],
        λ h. (are.each k (omega (arith, long, less))).1 (elim h as (λ _. IsMarked old k ⊎ (IsMarked before k × IsMarked behind (count - 1 - k))) [
          | inl marked ↦ inl marked
          | inr holds ↦ inr ((round k less).1 holds)
        ]),
      );
    }
  where
    long_first : length before ≡ length s.word.now + 1
    long_first = first.count ∙ (let e : length (inner s.word.now) ≡ length s.word.now = length-map s.word.now Inner in omega (arith, e))

    long_second : length behind ≡ length s.word.now + 1
    long_second =
        second.count ∙ (let e : length (inner (reverse s.word.now)) ≡ length (reverse s.word.now) = length-map (reverse s.word.now) Inner in
        let f : length (reverse s.word.now) ≡ length s.word.now = length-reverse s.word.now in omega (arith, e, f))

    round : (k : ℕ) → k < length old → (IsMarked before k × IsMarked behind (count - 1 - k)) ↔ HoldsOne t (take k s.word.now) (drop (k + width) s.word.now)
    round k less =
        round_both t s width k (count - 1 - k) before behind first second (omega (arith, long, wide, less)) (omega (arith, wide, less, long_first)) (omega (arith, long, wide, less, long_second))

pub both_room : (t : ContextTest) (s : Spelled) (width count : ℕ) (before behind old : List Bool)
    → AreMarks (λ i. Accepts t.before (take (i + 1) (Edge ∷ inner s.word.now))) (length (Edge ∷ inner s.word.now)) before
    → AreMarks (λ i. Accepts t.behind (take (i + 1) (Edge ∷ inner (reverse s.word.now)))) (length (Edge ∷ inner (reverse s.word.now))) behind
    → length old ≡ count → length old + width ≡ length s.word.now + 1 → (count ≤ length before) × (count ≤ length behind)
both_room t s width count before behind old first second long wide =
    let a : length before ≡ length (Edge ∷ inner s.word.now) = first.count in
    let b : length behind ≡ length (Edge ∷ inner (reverse s.word.now)) = second.count in
    let e : length (inner s.word.now) ≡ length s.word.now = length-map s.word.now Inner in
    let f : length (inner (reverse s.word.now)) ≡ length (reverse s.word.now) = length-map (reverse s.word.now) Inner in
    let g : length (reverse s.word.now) ≡ length s.word.now = length-reverse s.word.now in
    (omega (arith, a, e, long, wide), omega (arith, b, f, g, long, wide))

-- the contexts so far
pub none_round : (word : List Pair) (width n : ℕ) (marks : List Bool) → AreMarks (λ k. ⊥) n marks → AreMarks (HoldsRound [] word width) n marks
none_round word width n marks are =
    record { count = are.count; each = λ k less. (λ h. absurd ((are.each k less).0 h), λ h. absurd (Contains-nil_cases h.0 h.1)) }

pub more_round : (contexts more : List ContextTest) (t : ContextTest) (word : List Pair) (width n : ℕ) (old new : List Bool) → more ≡ contexts ++ t ∷ [] → AreMarks (HoldsRound contexts word width) n old
    → AreMarks (IsMarkedOr word width old t) (length old) new → AreMarks (HoldsRound more word width) n new
more_round contexts more t word width n old new is was now =
    record {
      count = now.count ∙ was.count;
      each = λ k less. (there k less, back k less);
    }
  where
    there : (k : ℕ) → k < n → IsMarked new k → HoldsRound more word width k
    there k less h =
        elim ((now.each k (let c = was.count in omega (arith, c, less))).0 h) as (λ _. HoldsRound more word width k) [
          | inl marked ↦ let r = (was.each k less).0 marked in (r.0, subst (λ (z : List ContextTest). Contains z r.0) (sym is) (Contains-append_left contexts (t ∷ []) r.0 r.1), r.2)
          | inr holds ↦ (t, subst (λ (z : List ContextTest). Contains z t) (sym is) (Contains-push contexts t), holds)
        ]

    back : (k : ℕ) → k < n → HoldsRound more word width k → IsMarked new k
    back k less h =
        (now.each k (let c = was.count in omega (arith, c, less))).1 (elim (Contains-push_cases contexts t h.0 (subst (λ (z : List ContextTest). Contains z h.0) is h.1)) as (λ _. IsMarkedOr word width old t k) [
          | inl among ↦ inl ((was.each k less).1 (h.0, among, h.2))
          | inr e ↦ inr (subst (λ (z : ContextTest). HoldsOne z (take k word) (drop (k + width) word)) (sym e) h.2)
        ])
