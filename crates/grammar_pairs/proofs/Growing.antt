-- Sets that grow by what each element of a list gives.
use Rattle.std.proofs.Common.{◌≡◌, ◌↔◌, ◌⊎◌, ◌+◌, ◌<◌, ◌≤◌, ℕ, Bool, true, false, List, [], ◌∷◌, ◌++◌, length, map, take, get_or, refl, sym, ap, subst, ◌∙◌, inl, inr, append-nil, arith, if◌then◌else◌}
use Rattle.std.proofs.lemmas.Grind.{flat_map-append}
use Rattle.std.proofs.lemmas.List.{take_more, take_all, map-append}
use Rattle.std.proofs.lemmas.List.Elements.{Contains-append_left, Contains-push, Contains-push_cases}
use Rattle.std.specs.Borrow.{Bor}
use Rattle.std.specs.List.{Contains, flat_map, list_any}
use Rattle.indexmap.proofs.CallerLemmas.{Contains-list_any}
use Rattle.indexmap.specs.IndexSet.{insert_key}
use Rattle.word_relations.proofs.Members.{Contains-nil_cases, Contains-cons_cases, Contains-head, Contains-tail}
use Rattle.expr_leaves.specs.Leaves.{seen}
use Rattle.project_meaning.proofs.Places.{in_front, in_back}

-- what a set has with one more
pub inserted : {K : Type 0} (eq : K → K → Bool) → ((a b : K) → eq a b ≡ true → a ≡ b) → (ks : List K) (k s : K) → Contains (insert_key eq ks k) s ↔ (Contains ks s ⊎ (k ≡ s))
inserted {K} eq same ks k s = by (list_any (eq k) ks) refl
  where
    by : (b : Bool) → list_any (eq k) ks ≡ b → Contains (insert_key eq ks k) s ↔ (Contains ks s ⊎ (k ≡ s))
    by true e = subst (λ (l : List K). Contains l s ↔ (Contains ks s ⊎ (k ≡ s))) (sym (ap (λ (c : Bool). if c then ks else ks ++ k ∷ []) e)) (
      λ h. inl h,
      λ h. elim h as (λ _. Contains ks s) [ inl at ↦ at | inr is ↦ subst (Contains ks) is (Contains-list_any eq same ks k e) ],
    )
    by false e = subst (λ (l : List K). Contains l s ↔ (Contains ks s ⊎ (k ≡ s))) (sym (ap (λ (c : Bool). if c then ks else ks ++ k ∷ []) e)) (
      λ h. Contains-push_cases ks k s h,
      λ h. elim h as (λ _. Contains (ks ++ k ∷ []) s) [
        | inl at ↦ Contains-append_left ks (k ∷ []) s at
        | inr is ↦ subst (Contains (ks ++ k ∷ [])) is (Contains-push ks k)
      ],
    )

-- what is in two lists is in one of them
pub front_or_back : {X : Type 0} (xs ys : List X) (x : X) → Contains (xs ++ ys) x → Contains xs x ⊎ Contains ys x
front_or_back [] ys x h = inr h
front_or_back (z ∷ xs) ys x h =
    elim (Contains-cons_cases z (xs ++ ys) x h) as (λ _. Contains (z ∷ xs) x ⊎ Contains ys x) [
      | inl is ↦ inl (subst (Contains (z ∷ xs)) is (Contains-head z xs))
      | inr more ↦ elim (front_or_back xs ys x more) as (λ _. Contains (z ∷ xs) x ⊎ Contains ys x) [ inl a ↦ inl (Contains-tail z xs x a) | inr b ↦ inr b ]
    ]

-- one of one
pub alone : {X : Type 0} (x y : X) → Contains (x ∷ []) y ↔ (x ≡ y)
alone x y = (
  λ h. elim (Contains-cons_cases x [] y h) as (λ _. x ≡ y) [ inl is ↦ is | inr none ↦ absurd (Contains-nil_cases y none) ],
  λ is. subst (Contains (x ∷ [])) is (Contains-head x []),
)

-- the set has what it had, and these
abbrev pub HasMore : {K : Type 0} → List K → List K → List K → Type 0
HasMore {K} old new more = (y : K) → Contains new y ↔ (Contains old y ⊎ Contains more y)

module _ {K : Type 0} where
  pub nothing_more : (old : List K) → HasMore old old []
  nothing_more old y = (λ c. inl c, λ e. elim e as (λ _. Contains old y) [ inl c ↦ c | inr none ↦ absurd (Contains-nil_cases y none) ])

  pub one_more : (old new : List K) (k : K) → ((y : K) → Contains new y ↔ (Contains old y ⊎ (k ≡ y))) → HasMore old new (k ∷ [])
  one_more old new k grown y = (
    λ c. elim ((grown y).0 c) as (λ _. Contains old y ⊎ Contains (k ∷ []) y) [ inl a ↦ inl a | inr is ↦ inr ((alone k y).1 is) ],
    λ e. elim e as (λ _. Contains new y) [ inl a ↦ (grown y).1 (inl a) | inr b ↦ (grown y).1 (inr ((alone k y).0 b)) ],
  )

  pub more_twice : (old now new first second : List K) → HasMore old now first → HasMore now new second → HasMore old new (first ++ second)
  more_twice old now new first second a b y = (
    λ c. elim ((b y).0 c) as (λ _. Contains old y ⊎ Contains (first ++ second) y) [
      | inl d ↦ elim ((a y).0 d) as (λ _. Contains old y ⊎ Contains (first ++ second) y) [ inl o ↦ inl o | inr f ↦ inr (in_front first second y f) ]
      | inr s ↦ inr (in_back first second y s)
    ],
    λ e. elim e as (λ _. Contains new y) [
      | inl o ↦ (b y).1 (inl ((a y).1 (inl o)))
      | inr f ↦ elim (front_or_back first second y f) as (λ _. Contains new y) [ inl g ↦ (b y).1 (inl ((a y).1 (inr g))) | inr s ↦ (b y).1 (inr s) ]
    ],
  )

  pub more_alike : (old new more other : List K) → more ≡ other → HasMore old new more → HasMore old new other
  more_alike old new more other is = subst (HasMore old new) is

module _ {X K : Type 0} (h : X → List K) where
  -- what is listed of one element more
  pub row_more : (old now new : List K) (xs : List X) (i : ℕ) (x : X) → i < length xs → x ≡ get_or xs i x → HasMore old now (flat_map h (take i xs)) → HasMore now new (h x) → HasMore old new (flat_map h (take (i + 1) xs))
  row_more old now new xs i x below is a b =
      let longer : take (i + 1) xs ≡ take i xs ++ x ∷ [] = subst (λ (p : X). take (i + 1) xs ≡ take i xs ++ p ∷ []) (sym is) (take_more xs i x below) in
      let listed : flat_map h (take (i + 1) xs) ≡ flat_map h (take i xs) ++ h x = ap (flat_map h) longer ∙ flat_map-append h (take i xs) (x ∷ []) ∙ ap (λ z. flat_map h (take i xs) ++ z) (append-nil (h x)) in
      subst (HasMore old new) (sym listed) (more_twice old now new (flat_map h (take i xs)) (h x) a b)

  pub row_done : (old new : List K) (xs : List X) (i : ℕ) → length xs ≤ i → HasMore old new (flat_map h (take i xs)) → HasMore old new (flat_map h xs)
  row_done old new xs i all = subst (λ z. HasMore old new (flat_map h z)) (take_all i xs all)

-- what a set has that had nothing
pub from_nothing : {K : Type 0} (old new more : List K) → length old ≡ 0 → HasMore old new more → (y : K) → Contains new y ↔ Contains more y
from_nothing old new more none grown y = (
  λ c. elim ((grown y).0 c) as (λ _. Contains more y) [ inl before ↦ absurd (omega (arith, none, before.1)) | inr m ↦ m ],
  λ m. (grown y).1 (inr m),
)

-- one image more
pub image_more : {X Y : Type 0} (f : X → Y) (xs : List X) (i : ℕ) (x : X) → i < length xs → x ≡ get_or xs i x → map f (take i xs) ++ f x ∷ [] ≡ map f (take (i + 1) xs)
image_more {X} f xs i x below is =
    sym (map-append f (take i xs) (x ∷ [])) ∙ ap (map f) (sym (subst (λ (p : X). take (i + 1) xs ≡ take i xs ++ p ∷ []) (sym is) (take_more xs i x below)))

pub image_at : {X Y : Type 0} (f : X → Y) (xs : List X) (i : ℕ) (d : X) → i < length xs → map f (take i xs) ++ f (get_or xs i d) ∷ [] ≡ map f (take (i + 1) xs)
image_at f xs i d below = sym (map-append f (take i xs) (get_or xs i d ∷ [])) ∙ ap (map f) (sym (take_more xs i d below))

-- what is listed behind references
pub seen_listed : {X K : Type 0} (h : X → List K) (xs : List (Bor X)) → flat_map (λ (b : Bor X). h b.now) xs ≡ flat_map h (seen xs)
seen_listed h [] = refl
seen_listed h (b ∷ xs) = ap (λ z. h b.now ++ z) (seen_listed h xs)
