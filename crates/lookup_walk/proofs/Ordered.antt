-- Texts sorted and each named once.
use Rattle.std.proofs.Common.{◌≡◌, ℕ, ◌↔◌, List, [], ◌∷◌, true, refl, sym, subst}
use Rattle.std.specs.Prelude.{nat_eq}
use Rattle.std.specs.List.{Contains, dedup}
use Rattle.std.specs.List.Retain.{IsFiltered, DiffersFromLast}
use Rattle.std.specs.List.Sorted.{IsPermutation, IsSorted, IsStrictlySortedBy}
use Rattle.std.specs.Cmp.Lexicographic.{pointwise, slice_cmp, nat_list_eq_equiv, nat_list_cmp_total, texts_ties}
use Rattle.std.specs.Ordering.{nat_cmp}
use Rattle.std.proofs.lemmas.List.Filters.{dedup_is}
use Rattle.std.proofs.lemmas.List.Kept.{Contains-dedup, Contains-from_dedup, IsStrictlySortedBy-dedup}
use Rattle.std.proofs.lemmas.List.Sorted.{Contains-permutation, IsPermutation-sym}
use Rattle.std.proofs.lemmas.Slice.Eq.{slice_eq-Decides}
use Rattle.std.proofs.lemmas.Bool.Decides.{Decides-eqb}
use Rattle.word_relations.specs.Answers.{IsInOrder}

same_texts : (x y : List ℕ) → pointwise nat_eq x y ≡ true → x ≡ y
same_texts x y e = (slice_eq-Decides Decides-eqb x y (pointwise nat_eq x y) refl).0 e

in_order_of : (xs : List (List ℕ)) → IsStrictlySortedBy (slice_cmp nat_cmp) xs → IsInOrder xs
unfolding IsStrictlySortedBy
in_order_of [] h = tt
in_order_of (x ∷ []) h = tt
in_order_of (x ∷ y ∷ xs) h = (h.0.0, in_order_of (y ∷ xs) h.1)

module _ (xs sorted ys : List (List ℕ)) (moved : IsPermutation xs sorted) (left : IsFiltered (DiffersFromLast (pointwise nat_eq)) [] sorted ys) where
  is : ys ≡ dedup (pointwise nat_eq) sorted
  is = dedup_is (pointwise nat_eq) sorted ys left

  pub once_same : (t : List ℕ) → Contains ys t ↔ Contains xs t
  once_same t = (
    λ h. Contains-permutation sorted xs t (IsPermutation-sym xs sorted moved) (Contains-from_dedup (pointwise nat_eq) sorted t (subst (λ zs. Contains zs t) is h)),
    λ h. subst (λ zs. Contains zs t) (sym is) (Contains-dedup nat_list_eq_equiv same_texts sorted t (Contains-permutation xs sorted t moved h)),
  )

  pub once_in_order : IsSorted (slice_cmp nat_cmp) sorted → IsInOrder ys
  once_in_order up = subst IsInOrder (sym is) (in_order_of (dedup (pointwise nat_eq) sorted) (IsStrictlySortedBy-dedup nat_list_cmp_total texts_ties sorted up))
