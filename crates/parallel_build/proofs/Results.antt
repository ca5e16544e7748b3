-- Lists whose elements belong together, place by place.
use Rattle.std.proofs.Common.{◌≡◌, ◌∙◌, ◌<◌, ℕ, List, [], ◌∷◌, ◌++◌, length, take, drop, get_or, Result, Ok, Err, IfOk, zero, suc, sym, ap, ap₂, subst, append_assoc, append-nil, take-append-drop, arith}
use Rattle.std.specs.List.{AllZip}

pub both_ok : {T E : Type 0} {P Q S : T → Type 0} (r : Result T E) → IfOk r P → IfOk r Q → ((v : T) → P v → Q v → S v) → IfOk r S
both_ok (Ok v) p q f = f v p q
both_ok (Err e) p q f = tt

pub AllZip-from_get_or : {A B : Type 0} (R : A → B → Type 0) (xs : List A) (ys : List B) → length ys ≡ length xs → ((i : ℕ) (d : A) (e : B) → i < length xs → R (get_or xs i d) (get_or ys i e)) → AllZip R xs ys
AllZip-from_get_or R [] [] same each = tt
AllZip-from_get_or R [] (y ∷ ys) same each = let no : ⊥ = omega (arith, same) in absurd no
AllZip-from_get_or R (x ∷ xs) [] same each = let no : ⊥ = omega (arith, same) in absurd no
AllZip-from_get_or R (x ∷ xs) (y ∷ ys) same each =
    (each zero x y (omega arith), AllZip-from_get_or R xs ys (omega (arith, same)) (λ i d e below. each (suc i) d e (omega arith)))

AllZip-append : {A B : Type 0} (R : A → B → Type 0) (xs : List A) (ys : List B) (zs : List A) (ws : List B) → AllZip R xs ys → AllZip R zs ws → AllZip R (xs ++ zs) (ys ++ ws)
AllZip-append R [] [] zs ws front back = back
AllZip-append R [] (y ∷ ys) zs ws front back = absurd front
AllZip-append R (x ∷ xs) [] zs ws front back = absurd front
AllZip-append R (x ∷ xs) (y ∷ ys) zs ws front back = (front.0, AllZip-append R xs ys zs ws front.1 back)

-- the first n of the batch have results, too
pub next_batch : {A B : Type 0} (R : A → B → Type 0) (all done batch now later : List A) (outs made grown : List B) (n : ℕ)
    → all ≡ done ++ batch → now ≡ take n batch → later ≡ drop n batch → AllZip R done outs → AllZip R now made → grown ≡ outs ++ made
    → (more : List A) × (all ≡ more ++ later) × AllZip R more grown
next_batch R all done batch now later outs made grown n whole front rest so_far these more =
    let parts : batch ≡ now ++ later = sym (take-append-drop n batch) ∙ sym (ap₂ (λ x y. x ++ y) front rest) in (
      done ++ now,
      whole ∙ ap (λ z. done ++ z) parts ∙ sym (append_assoc done now later),
      subst (AllZip R (done ++ now)) (sym more) (AllZip-append R done outs now made so_far these),
    )

-- no more are left
pub last_batch : {A B : Type 0} (R : A → B → Type 0) (all done batch : List A) (outs : List B) → all ≡ done ++ batch → length batch ≡ 0 → AllZip R done outs → AllZip R all outs
last_batch R all done [] outs whole none so_far = subst (λ z. AllZip R z outs) (sym (whole ∙ append-nil done)) so_far
last_batch R all done (x ∷ batch) outs whole none so_far = let no : ⊥ = omega (arith, none) in absurd no
