-- Lists of numbers: whether a number stands in one, and loops that keep some numbers of a list.
use Rattle.std.proofs.Common.{◌≡◌, ◌≢◌, ℕ, zero, suc, ◌+◌, ◌<◌, ◌≤◌, ◌⊎◌, ◌↔◌, List, [], ◌∷◌, ◌++◌, Bool, true, false, IsTrue, Some, length, take, refl, sym, subst, ap, inl, inr, arith}
use mathlib.Core.Bool.{beq}
use Rattle.std.specs.List.{slice_get, Contains}
use Rattle.std.proofs.lemmas.Bool.{cases_lt, false≢true}
use Rattle.std.proofs.lemmas.List.{take_all}
use Rattle.std.proofs.lemmas.List.Elements.{Contains-push_cases, Contains-push, Contains-append_left}
use Rattle.word_relations.proofs.Places.{take_more-slice_get, Contains-from_slice_get, slice_get_from_Contains}

pub same_or_not : (i j : ℕ) → (i ≡ j) ⊎ (i ≢ j)
same_or_not i j = elim (cases_lt i j) [
  | inl l ↦ inr (λ e. absurd (omega arith))
  | inr past ↦ elim (cases_lt j i) [ inl l ↦ inr (λ e. absurd (omega arith)) | inr back ↦ inl (omega arith) ]
]

pub stands_or_not : (xs : List ℕ) (s : ℕ) → Contains xs s ⊎ (Contains xs s → ⊥)
stands_or_not [] s = inr (λ h. let l = h.1 in absurd (omega arith))
stands_or_not (x ∷ xs) s = elim (same_or_not x s) [
  | inl e ↦ inl (Contains-from_slice_get (x ∷ xs) 0 s (ap Some e))
  | inr ne ↦ elim (stands_or_not xs s) [
    | inl h ↦ let p = slice_get_from_Contains xs s h in inl (Contains-from_slice_get (x ∷ xs) (suc p.0) s p.1)
    | inr never ↦ inr (λ h. let p = slice_get_from_Contains (x ∷ xs) s h in other p.0 p.1 ne never)
  ]
]
  where
    other : (k : ℕ) → slice_get (x ∷ xs) k ≡ Some s → (x ≢ s) → (Contains xs s → ⊥) → ⊥
    other zero at ne never = let e : Some x ≡ Some s = at in ne (cc)
    other (suc k) at ne never = never (Contains-from_slice_get xs k s at)

module _ (xs : List ℕ) (i x : ℕ) (at : slice_get xs i ≡ Some x) where
  front : take (i + 1) xs ≡ take i xs ++ x ∷ []
  front = take_more-slice_get xs i x at

  pub take_cases : (s : ℕ) → Contains (take (i + 1) xs) s → Contains (take i xs) s ⊎ (x ≡ s)
  take_cases s h = Contains-push_cases (take i xs) x s (subst (λ ys. Contains ys s) front h)

  pub take_old : (s : ℕ) → Contains (take i xs) s → Contains (take (i + 1) xs) s
  take_old s h = subst (λ ys. Contains ys s) (sym front) (Contains-append_left (take i xs) (x ∷ []) s h)

  pub take_new : Contains (take (i + 1) xs) x
  take_new = subst (λ ys. Contains ys x) (sym front) (Contains-push (take i xs) x)

-- these are the numbers of a list that pass a test
abbrev pub Keeps : (ℕ → Type 0) → List ℕ → List ℕ → Type 0
Keeps P xs ys = (s : ℕ) → Contains ys s ↔ (Contains xs s × P s)

pub Keeps-none : (P : ℕ → Type 0) (xs : List ℕ) → Keeps P (take 0 xs) []
Keeps-none P [] s = (λ h. let l = h.1 in absurd (omega arith), λ h. let l = h.0.1 in absurd (omega arith))
Keeps-none P (x ∷ xs) s = (λ h. let l = h.1 in absurd (omega arith), λ h. let l = h.0.1 in absurd (omega arith))

module _ (P : ℕ → Type 0) (xs ys : List ℕ) (i x : ℕ) (at : slice_get xs i ≡ Some x) (keeps : Keeps P (take i xs) ys) where
  pub Keeps-more : (zs : List ℕ) → zs ≡ ys ++ x ∷ [] → P x → Keeps P (take (i + 1) xs) zs
  Keeps-more zs pushed p s = (
    λ h. elim (Contains-push_cases ys x s (subst (λ vs. Contains vs s) pushed h)) [
      | inl old ↦ let k = (keeps s).0 old in (take_old xs i x at s k.0, k.1)
      | inr e ↦ (subst (Contains (take (i + 1) xs)) e (take_new xs i x at), subst P e p)
    ],
    λ h. subst (λ vs. Contains vs s) (sym pushed) (elim (take_cases xs i x at s h.0) [
      | inl old ↦ Contains-append_left ys (x ∷ []) s ((keeps s).1 (old, h.1))
      | inr e ↦ subst (Contains (ys ++ x ∷ [])) e (Contains-push ys x)
    ]),
  )

  pub Keeps-past : (P x → ⊥) → Keeps P (take (i + 1) xs) ys
  Keeps-past never s = (
    λ h. let k = (keeps s).0 h in (take_old xs i x at s k.0, k.1),
    λ h. elim (take_cases xs i x at s h.0) [
      | inl old ↦ (keeps s).1 (old, h.1)
      | inr e ↦ absurd (never (subst P (sym e) h.1))
    ],
  )

pub Keeps-all : (P : ℕ → Type 0) (xs ys : List ℕ) (i : ℕ) → length xs ≤ i → Keeps P (take i xs) ys → Keeps P xs ys
Keeps-all P xs ys i past keeps = subst (λ zs. Keeps P zs ys) (take_all i xs past) keeps

-- one more number below a bound stands in the list
pub below_pushed : (xs ys : List ℕ) (n : ℕ) → ys ≡ xs ++ n ∷ [] → ((k : ℕ) → k < n → Contains xs k) → (k : ℕ) → k < n + 1 → Contains ys k
below_pushed xs ys n pushed below k l = subst (λ zs. Contains zs k) (sym pushed) (elim (cases_lt k n) [
  | inl old ↦ Contains-append_left xs (n ∷ []) k (below k old)
  | inr past ↦ let this : n ≡ k = omega arith in subst (Contains (xs ++ n ∷ [])) this (Contains-push xs n)
])

pub bools_as : (b m : Bool) (P : Type 0) → (IsTrue b ↔ P) → IsTrue (beq b m) ↔ (IsTrue m ↔ P)
bools_as true true P is = (λ _. is, λ _. refl)
bools_as false false P is = (λ _. is, λ _. refl)
bools_as true false P is = (λ h. absurd (false≢true h), λ h. h.1 (is.0 refl))
bools_as false true P is = (λ h. absurd (false≢true h), λ h. is.1 (h.0 refl))

-- a list that keeps numbers by two tests
pub Keeps-then : (A P Q : ℕ → Type 0) (xs ys : List ℕ) → ((s : ℕ) → Contains xs s ↔ (A s × P s)) → Keeps Q xs ys → (s : ℕ) → Contains ys s ↔ (A s × (P s × Q s))
Keeps-then A P Q xs ys first second s = (
  λ h. let k = (second s).0 h in let j = (first s).0 k.0 in (j.0, (j.1, k.1)),
  λ h. (second s).1 ((first s).1 (h.0, h.1.0), h.1.1),
)
