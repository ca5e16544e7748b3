-- Letters that are found again at their places, one letter more at a time.
use Rattle.std.proofs.Common.{◌≡◌, ℕ, zero, suc, List, [], ◌∷◌, ◌++◌, Bool, true, false, Option, None, Some, length, refl, subst, sym, ap, inl, inr, arith, cond, ◌∙◌}
use Rattle.std.specs.List.{slice_get}
use Rattle.std.specs.Option.{is_some}
use Rattle.std.specs.Ordering.{is_eq}
use Rattle.std.specs.declared.cmp.Ordering.{Ordering}
use Rattle.std.specs.declared.cmp.Ordering.TheVariants.{Less, Equal, Greater}
use Rattle.std.proofs.lemmas.Option.{same_Some, slice_get_within}
use Rattle.word_relations.proofs.Places.{slice_get-append_cases, slice_get-append_left, slice_get-push}
use Rattle.word_relations.specs.Words.{IsDistinct}
use Rattle.fsa_subset.specs.Placed.{AreFound}

pub found_some : (o : Option ℕ) → is_some o ≡ true → (k : ℕ) × (o ≡ Some k)
found_some None e = cc
found_some (Some k) e = (k, refl)

pub found_none : (o : Option ℕ) → is_some o ≡ false → o ≡ None
found_none None e = refl
found_none (Some k) e = cc

pub is_equal : (o : Ordering) → is_eq o ≡ true → o ≡ Equal
is_equal Less e = cc
is_equal Equal e = refl
is_equal Greater e = cc

module _ {L : Type 0} (letters : List L) (find : L → Option ℕ) (found : AreFound letters find) where
  pub found_distinct : IsDistinct letters
  found_distinct i j x at_i at_j = same_Some i j (sym (found.all x i at_i) ∙ found.all x j at_j)

  module _ (x : L) (at : L → Bool) (same : (y : L) → at y ≡ true → x ≡ y) (itself : at x ≡ true) (none : find x ≡ None) (new : L → Option ℕ) (is : (y : L) → new y ≡ cond (at y) (Some (length letters)) (find y)) where
    here : (y : L) → at y ≡ true → new y ≡ Some (length letters)
    here y e = is y ∙ ap (λ b. cond b (Some (length letters)) (find y)) e

    others : (y : L) → at y ≡ false → new y ≡ find y
    others y e = is y ∙ ap (λ b. cond b (Some (length letters)) (find y)) e

    all_at : (y : L) (k : ℕ) → find y ≡ Some k → (b : Bool) → at y ≡ b → new y ≡ Some k
    all_at y k was true e = let clash : None ≡ Some k = sym none ∙ ap find (same y e) ∙ was in cc
    all_at y k was false e = others y e ∙ was

    only_at : (y : L) (k : ℕ) → new y ≡ Some k → (b : Bool) → at y ≡ b → slice_get (letters ++ x ∷ []) k ≡ Some y
    only_at y k there true e =
        let place : length letters ≡ k = same_Some (length letters) k (sym (here y e) ∙ there) in
        subst (λ j. slice_get (letters ++ x ∷ []) j ≡ Some y) place (slice_get-push letters x ∙ ap Some (same y e))
    only_at y k there false e =
        let was : slice_get letters k ≡ Some y = found.only y k (sym (others y e) ∙ there) in
        slice_get-append_left letters (x ∷ []) k (slice_get_within letters k y was) ∙ was

    last : (y : L) (j : ℕ) → slice_get (x ∷ []) j ≡ Some y → (j ≡ 0) × (x ≡ y)
    last y zero e = (refl, same_Some x y e)
    last y (suc j) e = cc

    pub found_push : AreFound (letters ++ x ∷ []) new
    found_push = record {
      all = λ y k there. elim (slice_get-append_cases letters (x ∷ []) k y there) [
        | inl was ↦ all_at y k (found.all y k was) (at y) refl
        | inr (j, place, e) ↦
            let r = last y j e in
            let k_is : length letters ≡ k = omega arith in
            here y (subst (λ z. at z ≡ true) r.1 itself) ∙ ap Some k_is
      ];
      only = λ y k there. only_at y k there (at y) refl;
    }
