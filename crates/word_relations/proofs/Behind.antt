-- What is left of a list behind a place.
use Rattle.std.proofs.Common.{◌≡◌, ◌+◌, ◌<◌, ℕ, suc, List, ◌∷◌, length, drop, get_or, sym, ap, ◌∙◌, arith}
use lib.Seq.{drop-cons}

-- what is left of a list is the item at the place, and what is behind it
pub left_behind : {X : Type 0} (xs : List X) (i : ℕ) (x : X) → i < length xs → x ≡ get_or xs i x → drop i xs ≡ x ∷ drop (i + 1) xs
left_behind {X} xs i x below is = drop-cons xs i x below ∙ ap (λ (y : X). y ∷ drop (suc i) xs) (sym is) ∙ ap (λ (n : ℕ). x ∷ drop n xs) (one_more i)
  where
    one_more : (i : ℕ) → suc i ≡ i + 1
    one_more i = omega arith
