-- Which elements a list has: by its first element, through `map` and through `++`.
use Rattle.std.proofs.Common.{◌≡◌, zero, suc, List, [], ◌∷◌, ◌⊎◌, map, refl, subst, inl, inr, arith}
use Rattle.std.specs.List.{Contains}

pub Contains-nil_cases : {X : Type 0} (x : X) → Contains [] x → ⊥
Contains-nil_cases x (k, l, e) = omega arith

pub Contains-head : {X : Type 0} (x : X) (xs : List X) → Contains (x ∷ xs) x
Contains-head x xs = (0, omega arith, refl)

pub Contains-tail : {X : Type 0} (x : X) (xs : List X) (y : X) → Contains xs y → Contains (x ∷ xs) y
Contains-tail x xs y (k, l, e) = (suc k, omega arith, e)

pub Contains-cons_cases : {X : Type 0} (x : X) (xs : List X) (y : X) → Contains (x ∷ xs) y → (x ≡ y) ⊎ Contains xs y
Contains-cons_cases x xs y (zero, l, e) = inl e
Contains-cons_cases x xs y (suc k, l, e) = inr (k, omega arith, e)

pub Contains-map : {X Y : Type 0} (f : X → Y) (xs : List X) (x : X) → Contains xs x → Contains (map f xs) (f x)
Contains-map f [] x h = absurd (Contains-nil_cases x h)
Contains-map f (y ∷ ys) x h =
    elim (Contains-cons_cases y ys x h) [
      | inl e ↦ subst (λ z. Contains (f y ∷ map f ys) (f z)) e (Contains-head (f y) (map f ys))
      | inr t ↦ Contains-tail (f y) (map f ys) (f x) (Contains-map f ys x t)
    ]

pub Contains-map_cases : {X Y : Type 0} (f : X → Y) (xs : List X) (y : Y) → Contains (map f xs) y → (x : X) × Contains xs x × (f x ≡ y)
Contains-map_cases f [] y h = absurd (Contains-nil_cases y h)
Contains-map_cases f (x ∷ xs) y h =
    elim (Contains-cons_cases (f x) (map f xs) y h) [
      | inl e ↦ (x, Contains-head x xs, e)
      | inr t ↦ let r = Contains-map_cases f xs y t in (r.0, Contains-tail x xs r.0 r.1, r.2)
    ]
