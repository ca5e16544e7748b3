-- Symbols that are sorted, each kept once: they are the same ones, and distinct.
use Rattle.std.proofs.Common.{◌≡◌, ◌↔◌, ◌==◌, Bool, true, List, [], refl, sym, ap, subst, ◌∙◌}
use Rattle.std.specs.Cmp.{IsEquivalence, IsTotalOrder, unsigned_ties}
use Rattle.std.specs.List.{Contains, IsDistinct as IsApart, dedup}
use Rattle.std.specs.List.Retain.{DiffersFromLast, IsFiltered}
use Rattle.std.specs.List.Sorted.{IsPermutation, IsSorted}
use Rattle.std.specs.Ordering.{eq_by_cmp, nat_cmp}
use Rattle.std.specs.declared.cmp.Ordering.{Ordering}
use Rattle.std.proofs.lemmas.Bool.{eqb-true, eq-eqb}
use Rattle.std.proofs.lemmas.Cmp.{nat_cmp_total, nat_eq_equiv, on_total}
use Rattle.std.proofs.lemmas.List.{map-id}
use Rattle.std.proofs.lemmas.List.Filters.{dedup_is}
use Rattle.std.proofs.lemmas.List.Kept.{Contains-dedup, Contains-from_dedup, IsStrictlySortedBy-dedup}
use Rattle.std.proofs.lemmas.List.Sorted.{Contains-permutation, IsPermutation-sym}
use Rattle.std.proofs.lemmas.Map.Keys.{IsDistinct-from_sorted}
use Rattle.fsm_base.specs.declared.letters.Sym.{Sym as Symbol}
use Rattle.fsm_base.proofs.TableLemmas.{IsDistinct-map}
use Rattle.word_relations.specs.Words.{IsDistinct}

abbrev pub same_number : Symbol → Symbol → Bool
same_number a b = a.0 == b.0

abbrev pub by_number : Symbol → Symbol → Ordering
by_number a b = nat_cmp a.0 b.0

by_number_total : IsTotalOrder by_number
by_number_total = on_total (λ (s : Symbol). s.0) nat_cmp_total

one_symbol : (a b : Symbol) → same_number a b ≡ true → a ≡ b
one_symbol a b e = ap (λ n. record { 0 = n }) (eqb-true a.0 b.0 e)

itself : (a b : Symbol) → a ≡ b → same_number a b ≡ true
itself a b e = eq-eqb a.0 b.0 (ap (λ (s : Symbol). s.0) e)

same_equiv : IsEquivalence same_number
same_equiv = record {
  refl = λ x. itself x x refl;
  symm = λ x y. nat_eq_equiv.symm x.0 y.0;
  congr = λ x y z e. ap (λ v. same_number v z) (one_symbol x y e);
}

module _ (xs sorted ys : List Symbol) (moved : IsPermutation xs sorted) (left : IsFiltered (DiffersFromLast same_number) [] sorted ys) where
  is : ys ≡ dedup same_number sorted
  is = dedup_is same_number sorted ys left

  pub once_same : (s : Symbol) → Contains ys s ↔ Contains xs s
  once_same s = (
    λ h. Contains-permutation sorted xs s (IsPermutation-sym xs sorted moved) (Contains-from_dedup same_number sorted s (subst (λ zs. Contains zs s) is h)),
    λ h. subst (λ zs. Contains zs s) (sym is) (Contains-dedup same_equiv one_symbol sorted s (Contains-permutation xs sorted s moved h)),
  )

  pub once_distinct : IsSorted by_number sorted → IsDistinct ys
  once_distinct up =
      subst IsDistinct (map-id ys)
      (IsDistinct-map (eq_by_cmp by_number) (λ (s : Symbol). s) (λ a b e. sym (unsigned_ties a.0 b.0) ∙ itself a b e) ys
      (subst (IsApart (eq_by_cmp by_number)) (sym is) (IsDistinct-from_sorted by_number (dedup same_number sorted) (IsStrictlySortedBy-dedup by_number_total (λ x y. unsigned_ties x.0 y.0) sorted up))))
