-- The first element that passes a test.
use Rattle.std.proofs.Common.{◌≡◌, ◌+◌, ◌<◌, ℕ, zero, suc, Bool, cond, true, false, ◌||◌, List, [], ◌∷◌, ◌++◌, length, take, drop, get_or, Option, None, Some, IfSome, refl, sym, ap, ◌∙◌, arith}
use Rattle.std.specs.List.{list_any, position, position_from}
use Rattle.std.proofs.lemmas.List.Quantifiers.{position-Some}
use Rattle.std.proofs.lemmas.Iterator.Adapters.{position_from-zero}

pub or_left : (a b : Bool) → (a || b) ≡ false → a ≡ false
or_left true b e = absurd cc
or_left false b e = refl

pub or_right : (a b : Bool) → (a || b) ≡ false → b ≡ false
or_right true b e = absurd cc
or_right false b e = e

pub or_none : (a b : Bool) → a ≡ false → b ≡ false → (a || b) ≡ false
or_none a b p q = rw (p, q) refl

module _ {X : Type 0} (p : X → Bool) where
  none_from : (xs : List X) (i : ℕ) → position_from p i xs ≡ None → list_any p xs ≡ false
  none_from [] i e = refl
  none_from (x ∷ xs) i e = by (p x) (none_from xs (i + 1)) e
    where
      by : (b : Bool) → (position_from p (i + 1) xs ≡ None → list_any p xs ≡ false) → cond b (Some i) (position_from p (i + 1) xs) ≡ None → (b || list_any p xs) ≡ false
      by true more e = absurd cc
      by false more e = more e

  -- where no place is the first, no element passes
  pub none_passes : (xs : List X) → position p xs ≡ None → list_any p xs ≡ false
  none_passes xs none = none_from xs 0 (sym (position_from-zero p xs) ∙ none)

  -- what stands before the first that passes, and behind it
  pub record FirstAt (xs : List X) (k : ℕ) : Type 0 where
    pub element : X
    pub passes : p element ≡ true
    pub split : xs ≡ take k xs ++ element ∷ drop 1 (drop k xs)
    pub before : list_any p (take k xs) ≡ false
    pub within : k < length xs

  first_by : (d : X) (xs : List X) (k : ℕ) → k < length xs → p (get_or xs k d) ≡ true → ((j : ℕ) → j < k → p (get_or xs j d) ≡ false) → FirstAt xs k
  first_by d [] k within is before = absurd (omega arith)
  first_by d (x ∷ xs) zero within is before = record { element = x; passes = is; split = refl; before = refl; within = within }
  first_by d (x ∷ xs) (suc k) within is before =
      let more = first_by d xs k (omega arith) is (λ j h. before (suc j) (omega arith)) in
      record { element = more.element; passes = more.passes; split = ap (λ (ys : List X). x ∷ ys) more.split; before = or_none (p x) (list_any p (take k xs)) (before 0 (omega arith)) more.before; within = within }

  pub first_at : (xs : List X) (k : ℕ) → position p xs ≡ Some k → FirstAt xs k
  first_at [] k is = absurd cc
  first_at (x ∷ xs) k is = let found = position-Some p (x ∷ xs) k x is in first_by x (x ∷ xs) k found.0 found.1 found.2

  pub first_within : (xs : List X) (o : Option ℕ) → o ≡ position p xs → IfSome o (λ k. k < length xs)
  first_within xs None is = tt
  first_within xs (Some k) is = (first_at xs k (sym is)).within

  -- two splits of a list at its first element that passes are one
  pub one_first : (a b x y : List X) (c d : X) → list_any p a ≡ false → list_any p b ≡ false → p c ≡ true → p d ≡ true → a ++ c ∷ x ≡ b ++ d ∷ y → (a ≡ b) × (x ≡ y)
  one_first [] [] x y c d none_a none_b here there e = (refl, let same : x ≡ y = cc in same)
  one_first [] (i ∷ b) x y c d none_a none_b here there e = let same : c ≡ i = cc in let clash : true ≡ false = sym here ∙ ap p same ∙ or_left (p i) (list_any p b) none_b in absurd cc
  one_first (i ∷ a) [] x y c d none_a none_b here there e = let same : i ≡ d = cc in let clash : false ≡ true = sym (or_left (p i) (list_any p a) none_a) ∙ ap p same ∙ there in absurd cc
  one_first (i ∷ a) (j ∷ b) x y c d none_a none_b here there e =
      let first : i ≡ j = cc in
      let others : a ++ c ∷ x ≡ b ++ d ∷ y = cc in
      let rest = one_first a b x y c d (or_right (p i) (list_any p a) none_a) (or_right (p j) (list_any p b) none_b) here there others in
      ((ap (λ (n : X). n ∷ a) first ∙ ap (λ (z : List X). j ∷ z) rest.0), rest.1)

  -- an element that passes is among those that any does
  pub any_inside : (a x : List X) (c : X) → p c ≡ true → list_any p (a ++ c ∷ x) ≡ false → ⊥
  any_inside [] x c here none = let clash : true ≡ false = sym here ∙ or_left (p c) (list_any p x) none in absurd cc
  any_inside (i ∷ a) x c here none = any_inside a x c here (or_right (p i) (list_any p (a ++ c ∷ x)) none)

  -- none passes in a front
  pub none_in_front : (xs : List X) (k : ℕ) → list_any p xs ≡ false → list_any p (take k xs) ≡ false
  none_in_front [] zero none = refl
  none_in_front [] (suc k) none = refl
  none_in_front (x ∷ xs) zero none = refl
  none_in_front (x ∷ xs) (suc k) none = or_none (p x) (list_any p (take k xs)) (or_left (p x) (list_any p xs) none) (none_in_front xs k (or_right (p x) (list_any p xs) none))
