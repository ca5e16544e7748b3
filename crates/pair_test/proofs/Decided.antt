-- Whether a context holds is decided, since its automata are run.
use Rattle.std.proofs.Common.{◌≡◌, ◌<◌, ◌⊎◌, ℕ, zero, suc, Bool, true, false, List, Option, [], ◌∷◌, ◌++◌, Some, None, length, refl, sym, ap, subst, ◌∙◌, inl, inr, arith, true≢false}
use Rattle.std.specs.List.{slice_get, Contains}
use Rattle.std.proofs.lemmas.Bool.{cases_lt}
use Rattle.std.proofs.lemmas.Option.{same_Some, slice_get_within}
use Rattle.fsm_base.specs.declared.letters.Pair.{Pair}
use Rattle.fsm_base.specs.declared.letters.Bound.{Bound}
use Rattle.fsm_base.specs.declared.letters.Bound.TheVariants.{Edge, Inner}
use Rattle.word_relations.proofs.Members.{Contains-cons_cases, Contains-head, Contains-nil_cases, Contains-tail}
use Rattle.fsa.specs.Complete.{Complete, Accepts, AcceptsFrom, next_state, read, stop}
use Rattle.fsa.proofs.Paths.{stop_back}
use Rattle.grammar_pairs.proofs.Found.{own_pair, pair_eq, same_pair}
use Rattle.expr_meaning.specs.Operators.{HasPrefix, HasSuffix, HoldsLeft, HoldsRight, inner}
use Rattle.two_level.specs.Rules.{Holds}
use Rattle.two_level.specs.declared.rule.PairContext.{PairContext}

abbrev pub Decided : Type 0 → Type 0
Decided P = P ⊎ (P → ⊥)

pair_decided : (x y : Pair) → Decided (x ≡ y)
pair_decided x y = by (pair_eq x y) refl
  where
    by : (b : Bool) → pair_eq x y ≡ b → Decided (x ≡ y)
    by true e = inl (same_pair x y e)
    by false e = inr (λ is. true≢false (sym (own_pair x y is) ∙ e))

inner_same : (x y : Pair) → Inner x ≡ Inner y → x ≡ y
inner_same x y e = cc

letter_decided : (x y : Bound Pair) → Decided (x ≡ y)
letter_decided Edge Edge = inl refl
letter_decided Edge (Inner y) = inr (λ e. let clash : Edge ≡ Inner y = e in cc)
letter_decided (Inner x) Edge = inr (λ e. let clash : Inner x ≡ Edge = e in cc)
letter_decided (Inner x) (Inner y) =
    elim (pair_decided x y) as (λ _. Decided (Inner x ≡ Inner y)) [
      | inl is ↦ inl (ap (λ (z : Pair). Inner z) is)
      | inr isnt ↦ inr (λ e. isnt (inner_same x y e))
    ]

-- some number below a bound
below_decided : (P : ℕ → Type 0) → ((k : ℕ) → Decided (P k)) → (n : ℕ) → Decided ((k : ℕ) × (k < n) × P k)
below_decided P each zero = inr (λ (k, less, p). absurd (omega (arith, less)))
below_decided P each (suc n) =
    elim (below_decided P each n) as (λ _. Decided ((k : ℕ) × (k < suc n) × P k)) [
      | inl (k, less, p) ↦ inl (k, omega (arith, less), p)
      | inr none ↦ elim (each n) as (λ _. Decided ((k : ℕ) × (k < suc n) × P k)) [
        | inl p ↦ inl (n, omega arith, p)
        | inr isnt ↦ inr (λ (k, less, p). elim (cases_lt k n) as (λ _. ⊥) [
          | inl under ↦ none (k, under, p)
          | inr more ↦ let e : k ≡ n = omega (arith, less, more) in isnt (subst P e p)
        ])
      ]
    ]

module _ (d : Complete (Bound Pair)) where
  -- a step by the letter at a place, and what holds behind it
  abbrev Step : (ℕ → Type 0) → ℕ → Bound Pair → ℕ → Type 0
  Step After s x k = (slice_get d.letters k ≡ Some x) × ((t : ℕ) × (next_state d s k ≡ Some t) × After t)

  go_decided : (After : ℕ → Type 0) → ((t : ℕ) → Decided (After t)) → (s k : ℕ) → Decided ((t : ℕ) × (next_state d s k ≡ Some t) × After t)
  go_decided After each s k = by (next_state d s k) refl
    where
      by : (o : Option ℕ) → next_state d s k ≡ o → Decided ((t : ℕ) × (next_state d s k ≡ Some t) × After t)
      by None e = inr (λ (t, go, rest). let clash : None ≡ Some t = sym e ∙ go in cc)
      by (Some u) e = elim (each u) as (λ _. Decided ((t : ℕ) × (next_state d s k ≡ Some t) × After t)) [
        | inl rest ↦ inl (u, e, rest)
        | inr isnt ↦ inr (λ (t, go, rest). isnt (subst After (same_Some t u (sym go ∙ e)) rest))
      ]

  step_decided : (After : ℕ → Type 0) → ((t : ℕ) → Decided (After t)) → (s : ℕ) (x : Bound Pair) (k : ℕ) → Decided (Step After s x k)
  step_decided After each s x k = by (slice_get d.letters k) refl
    where
      by : (o : Option (Bound Pair)) → slice_get d.letters k ≡ o → Decided (Step After s x k)
      by None e = inr (λ (at, rest). let clash : None ≡ Some x = sym e ∙ at in cc)
      by (Some y) e = elim (letter_decided y x) as (λ _. Decided (Step After s x k)) [
        | inl is ↦ elim (go_decided After each s k) as (λ _. Decided (Step After s x k)) [
          | inl rest ↦ inl (e ∙ ap (λ (z : Bound Pair). Some z) is, rest)
          | inr isnt ↦ inr (λ (at, rest). isnt rest)
        ]
        | inr isnt ↦ inr (λ (at, rest). isnt (same_Some y x (sym e ∙ at)))
      ]

  taken : (s : ℕ) (x : Bound Pair) (w : List (Bound Pair)) → AcceptsFrom d s (x ∷ w) → (k : ℕ) × (k < length d.letters) × Step (λ t. AcceptsFrom d t w) s x k
  taken s x w (read {t = t} k at go rest) = (k, slice_get_within d.letters k x at, (at, (t, go, rest)))

  from_decided : (w : List (Bound Pair)) (s : ℕ) → Decided (AcceptsFrom d s w)
  from_decided [] s = by (slice_get d.finals s) refl
    where
      by : (o : Option Bool) → slice_get d.finals s ≡ o → Decided (AcceptsFrom d s [])
      by None e = inr (λ h. let clash : None ≡ Some true = sym e ∙ stop_back d s h in cc)
      by (Some true) e = inl (stop e)
      by (Some false) e = inr (λ h. let clash : Some false ≡ Some true = sym e ∙ stop_back d s h in cc)
  from_decided (x ∷ w) s =
      elim (below_decided (Step (λ t. AcceptsFrom d t w) s x) (step_decided (λ t. AcceptsFrom d t w) (from_decided w) s x) (length d.letters)) as (λ _. Decided (AcceptsFrom d s (x ∷ w))) [
        | inl (k, less, (at, (t, go, rest))) ↦ inl (read k at go rest)
        | inr none ↦ inr (λ h. none (taken s x w h))
      ]

  pub accepts_decided : (w : List (Bound Pair)) → Decided (Accepts d w)
  accepts_decided w = from_decided w 0

module _ {L : Type 0} where
  nil_back : (front back : List L) → [] ≡ front ++ back → back ≡ []
  nil_back [] back is = sym is
  nil_back (y ∷ front) back is = let clash : [] ≡ y ∷ (front ++ back) = is in absurd (cc)

  nil_front : (front back : List L) → [] ≡ front ++ back → front ≡ []
  nil_front [] back is = refl
  nil_front (y ∷ front) back is = let clash : [] ≡ y ∷ (front ++ back) = is in absurd (cc)

  heads : (x y : L) (v w : List L) → x ∷ v ≡ y ∷ w → (x ≡ y) × (v ≡ w)
  heads x y v w is = let a : x ≡ y = cc in let b : v ≡ w = cc in (a, b)

  pub suffix_decided : (P : List L → Type 0) → ((w : List L) → Decided (P w)) → (w : List L) → Decided (HasSuffix P w)
  suffix_decided P each [] =
      elim (each []) as (λ _. Decided (HasSuffix P [])) [
        | inl p ↦ inl ([], [], refl, p)
        | inr isnt ↦ inr (λ (front, back, is, p). isnt (subst P (nil_back front back is) p))
      ]
  suffix_decided P each (x ∷ v) =
      elim (each (x ∷ v)) as (λ _. Decided (HasSuffix P (x ∷ v))) [
        | inl p ↦ inl ([], x ∷ v, refl, p)
        | inr isnt ↦ elim (suffix_decided P each v) as (λ _. Decided (HasSuffix P (x ∷ v))) [
          | inl (front, back, is, p) ↦ inl (x ∷ front, back, ap (λ z. x ∷ z) is, p)
          | inr none ↦ inr (λ (front, back, is, p). cut front back is p isnt none)
        ]
      ]
    where
      cut : (front back : List L) → x ∷ v ≡ front ++ back → P back → (P (x ∷ v) → ⊥) → (HasSuffix P v → ⊥) → ⊥
      cut [] back is p isnt none = isnt (subst P (sym is) p)
      cut (y ∷ front) back is p isnt none = none (front, back, (heads x y v (front ++ back) is).1, p)

  pub prefix_decided : (w : List L) (P : List L → Type 0) → ((u : List L) → Decided (P u)) → Decided (HasPrefix P w)
  prefix_decided [] P each =
      elim (each []) as (λ _. Decided (HasPrefix P [])) [
        | inl p ↦ inl ([], [], refl, p)
        | inr isnt ↦ inr (λ (front, back, is, p). isnt (subst P (nil_front front back is) p))
      ]
  prefix_decided (x ∷ v) P each =
      elim (each []) as (λ _. Decided (HasPrefix P (x ∷ v))) [
        | inl p ↦ inl ([], x ∷ v, refl, p)
        | inr isnt ↦ elim (prefix_decided v (λ u. P (x ∷ u)) (λ u. each (x ∷ u))) as (λ _. Decided (HasPrefix P (x ∷ v))) [
          | inl (front, back, is, p) ↦ inl (x ∷ front, back, ap (λ z. x ∷ z) is, p)
          | inr none ↦ inr (λ (front, back, is, p). cut front back is p isnt none)
        ]
      ]
    where
      cut : (front back : List L) → x ∷ v ≡ front ++ back → P front → (P [] → ⊥) → (HasPrefix (λ u. P (x ∷ u)) v → ⊥) → ⊥
      cut [] back is p isnt none = isnt p
      cut (y ∷ front) back is p isnt none = let e = heads x y v (front ++ back) is in none (front, back, e.1, subst (λ z. P (z ∷ front)) (sym e.0) p)

  pub among_decided : (P : L → Type 0) → ((x : L) → Decided (P x)) → (xs : List L) → Decided ((x : L) × Contains xs x × P x)
  among_decided P each [] = inr (λ (x, among, p). Contains-nil_cases x among)
  among_decided P each (y ∷ xs) =
      elim (each y) as (λ _. Decided ((x : L) × Contains (y ∷ xs) x × P x)) [
        | inl p ↦ inl (y, Contains-head y xs, p)
        | inr isnt ↦ elim (among_decided P each xs) as (λ _. Decided ((x : L) × Contains (y ∷ xs) x × P x)) [
          | inl (x, among, p) ↦ inl (x, Contains-tail y xs x among, p)
          | inr none ↦ inr (λ (x, among, p). elim (Contains-cons_cases y xs x among) as (λ _. ⊥) [
            | inl is ↦ isnt (subst P (sym is) p)
            | inr more ↦ none (x, more, p)
          ])
        ]
      ]

both_decided : (P Q : Type 0) → Decided P → Decided Q → Decided (P × Q)
both_decided P Q p q =
    elim p as (λ _. Decided (P × Q)) [
      | inl h ↦ elim q as (λ _. Decided (P × Q)) [
        | inl k ↦ inl (h, k)
        | inr isnt ↦ inr (λ r. isnt r.1)
      ]
      | inr isnt ↦ inr (λ r. isnt r.0)
    ]

pub holds_decided : (contexts : List PairContext) (x z : List Pair) → Decided (Holds contexts x z)
holds_decided contexts x z =
    elim (among_decided (λ (c : PairContext). HoldsLeft (Accepts c.left) (inner x) × HoldsRight (Accepts c.right) (inner z)) (λ c. each c) contexts) as (λ _. Decided (Holds contexts x z)) [
      | inl (c, among, (left, right)) ↦ inl (c, among, left, right)
      | inr none ↦ inr (λ (c, among, left, right). none (c, among, (left, right)))
    ]
  where
    each : (c : PairContext) → Decided (HoldsLeft (Accepts c.left) (inner x) × HoldsRight (Accepts c.right) (inner z))
    each c =
        both_decided (HoldsLeft (Accepts c.left) (inner x)) (HoldsRight (Accepts c.right) (inner z)) (suffix_decided (Accepts c.left) (accepts_decided c.left) (Edge ∷ inner x))
        (prefix_decided (inner z ++ Edge ∷ []) (Accepts c.right) (accepts_decided c.right))
