-- Whether one of the places that items refer to is marked, item by item.
use Rattle.std.proofs.Common.{◌≡◌, ◌↔◌, ◌+◌, ◌<◌, ℕ, suc, Bool, List, ◌∷◌, ◌++◌, drop, get_or, length, inl, inr, sym, ap, subst, ◌∙◌, arith}
use Rattle.std.proofs.Math.Seq.{drop-cons}
use Rattle.std.proofs.lemmas.List.Elements.{Contains-append_cases, Contains-append_left, Contains-append_right}
use Rattle.touched_names.specs.Places.{HasMarked}

-- what is left of a list behind a place, whichever item stands for none
pub left_at : {X : Type 0} (xs : List X) (i : ℕ) (d : X) → i < length xs → drop i xs ≡ get_or xs i d ∷ drop (i + 1) xs
left_at {X} xs i d below = drop-cons xs i d below ∙ ap (λ (n : ℕ). get_or xs i d ∷ drop n xs) (one_more i)
  where
    one_more : (i : ℕ) → suc i ≡ i + 1
    one_more i = omega arith

module _ {X : Type 0} (all : List X → List ℕ) (one : X → List ℕ) (first : (x : X) (xs : List X) → all (x ∷ xs) ≡ one x ++ all xs)
    (marks : List Bool) (xs : List X) (i : ℕ) (x : X) (left : drop i xs ≡ x ∷ drop (i + 1) xs) (so_far : HasMarked marks (all (drop i xs)) ↔ HasMarked marks (all xs)) where
  parted : all (drop i xs) ≡ one x ++ all (drop (i + 1) xs)
  parted = ap all left ∙ first x (drop (i + 1) xs)

  pub found : HasMarked marks (one x) → HasMarked marks (all xs)
  found (p, among, marked) = so_far.0 (subst (HasMarked marks) (sym parted) (p, Contains-append_left (one x) (all (drop (i + 1) xs)) p among, marked))

  pub none_here : (HasMarked marks (one x) → ⊥) → HasMarked marks (all (drop (i + 1) xs)) ↔ HasMarked marks (all xs)
  none_here none = (
    λ h. so_far.0 (subst (HasMarked marks) (sym parted) (h.0, Contains-append_right (one x) (all (drop (i + 1) xs)) h.0 h.1, h.2)),
    λ h.
        let there = subst (HasMarked marks) parted (so_far.1 h) in
        elim (Contains-append_cases (one x) (all (drop (i + 1) xs)) there.0 there.1) as (λ _. HasMarked marks (all (drop (i + 1) xs))) [
          | inl here ↦ absurd (none (there.0, here, there.2))
          | inr behind ↦ (there.0, behind, there.2)
        ],
  )
