-- What stands at a place of a list.
use Rattle.std.proofs.Common.{◌≡◌, ◌≢◌, ℕ, zero, suc, ◌+◌, ◌<◌, List, [], ◌∷◌, ◌++◌, ◌⊎◌, length, set, take, Some, sym, refl, subst, inl, inr, arith, ap, ◌∙◌}
use Rattle.std.specs.List.{Contains, slice_get}
use Rattle.std.proofs.lemmas.Option.{slice_get_within, slice_get-get_or, get_or_from_slice_get, same_Some}
use Rattle.std.proofs.lemmas.List.{take_more}

pub Contains-from_slice_get : {X : Type 0} (xs : List X) (k : ℕ) (x : X) → slice_get xs k ≡ Some x → Contains xs x
Contains-from_slice_get xs k x e = (k, slice_get_within xs k x e, get_or_from_slice_get xs k x x e)

pub slice_get_from_Contains : {X : Type 0} (xs : List X) (x : X) → Contains xs x → (k : ℕ) × (slice_get xs k ≡ Some x)
slice_get_from_Contains xs x (k, l, e) = (k, slice_get-get_or xs k x l ∙ ap Some e)

pub slice_get-append_left : {X : Type 0} (xs ys : List X) (k : ℕ) → k < length xs → slice_get (xs ++ ys) k ≡ slice_get xs k
slice_get-append_left [] ys k l = absurd (omega arith)
slice_get-append_left (x ∷ xs) ys zero l = refl
slice_get-append_left (x ∷ xs) ys (suc k) l = slice_get-append_left xs ys k (omega arith)

pub slice_get-append_right : {X : Type 0} (xs ys : List X) (k : ℕ) → slice_get (xs ++ ys) (k + length xs) ≡ slice_get ys k
slice_get-append_right [] ys k = let e : k + 0 ≡ k = omega arith in ap (slice_get ys) e
slice_get-append_right (x ∷ xs) ys k =
    let e : k + suc (length xs) ≡ suc (k + length xs) = omega arith in
    ap (slice_get (x ∷ (xs ++ ys))) e ∙ slice_get-append_right xs ys k

-- what stands in two lists joined stands in the first, or in the second at a place that is as much smaller
pub slice_get-append_cases : {X : Type 0} (xs ys : List X) (k : ℕ) (x : X) → slice_get (xs ++ ys) k ≡ Some x → (slice_get xs k ≡ Some x) ⊎ ((j : ℕ) × (k ≡ j + length xs) × (slice_get ys j ≡ Some x))
slice_get-append_cases [] ys k x e = inr (k, omega arith, e)
slice_get-append_cases (y ∷ xs) ys zero x e = inl e
slice_get-append_cases (y ∷ xs) ys (suc k) x e =
    elim (slice_get-append_cases xs ys k x e) [
      | inl h ↦ inl h
      | inr h ↦ inr (h.0, omega arith, h.2)
    ]

pub slice_get-push : {X : Type 0} (xs : List X) (x : X) → slice_get (xs ++ x ∷ []) (length xs) ≡ Some x
slice_get-push [] x = refl
slice_get-push (y ∷ xs) x = slice_get-push xs x

pub slice_get-set_same : {X : Type 0} (xs : List X) (k : ℕ) (x : X) → k < length xs → slice_get (set xs k x) k ≡ Some x
slice_get-set_same [] k x l = absurd (omega arith)
slice_get-set_same (y ∷ xs) zero x l = refl
slice_get-set_same (y ∷ xs) (suc k) x l = slice_get-set_same xs k x (omega arith)

pub slice_get-set_other : {X : Type 0} (xs : List X) (k j : ℕ) (x : X) → j ≢ k → slice_get (set xs k x) j ≡ slice_get xs j
slice_get-set_other [] k j x ne = refl
slice_get-set_other (y ∷ xs) zero zero x ne = absurd (ne refl)
slice_get-set_other (y ∷ xs) zero (suc j) x ne = refl
slice_get-set_other (y ∷ xs) (suc k) zero x ne = refl
slice_get-set_other (y ∷ xs) (suc k) (suc j) x ne = slice_get-set_other xs k j x (λ e. ne (ap suc e))

-- one more element of a front
pub take_more-slice_get : {X : Type 0} (xs : List X) (k : ℕ) (x : X) → slice_get xs k ≡ Some x → take (k + 1) xs ≡ take k xs ++ x ∷ []
take_more-slice_get xs k x e =
    subst (λ y. take (k + 1) xs ≡ take k xs ++ y ∷ []) (get_or_from_slice_get xs k x x e) (take_more xs k x (slice_get_within xs k x e))

-- a place holds one element
pub same_at : {X : Type 0} (xs : List X) (k : ℕ) (x y : X) → slice_get xs k ≡ Some x → slice_get xs k ≡ Some y → x ≡ y
same_at xs k x y e f = same_Some x y (sym e ∙ f)
