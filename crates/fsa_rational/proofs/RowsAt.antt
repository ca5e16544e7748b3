-- The rows with a key stand together in rows that are sorted by their keys.
use Rattle.std.proofs.Common.{◌≡◌, ℕ, ◌≤◌, ◌↔◌, List, true, false, length, get_or, take, drop, ltb, leb, refl, subst, sym, ap, arith, ◌∙◌}
use Rattle.std.specs.List.{Contains}
use Rattle.std.specs.List.Sorted.{IsPartitionPoint, IsPartitionedBy, IsNonDecreasingBy, IsSortedByKey}
use Rattle.std.specs.Cmp.{IsTotalOrder}
use Rattle.std.specs.Ordering.{is_lt, is_le, ordering_index, ordering_reverse}
use Rattle.std.specs.declared.cmp.Ordering.{Ordering}
use Rattle.std.specs.declared.cmp.Ordering.TheVariants.{Less, Equal, Greater}
use Rattle.std.proofs.lemmas.List.Sorted.{IsPartitionedBy-ltb, IsPartitionedBy-leb, searchable_from_sorted}
use Rattle.fsa_explore.proofs.OutEdges.{rows_out}

lt_is : (o : Ordering) → ltb (ordering_index o) 1 ≡ is_lt o
lt_is Less = refl
lt_is Equal = refl
lt_is Greater = refl

le_is : (o : Ordering) → leb (ordering_index o) 1 ≡ is_le o
le_is Less = refl
le_is Equal = refl
le_is Greater = refl

equal_index : (o : Ordering) → ordering_index o ≡ 1 → o ≡ Equal
equal_index Less e = absurd (omega arith)
equal_index Equal e = refl
equal_index Greater e = absurd (omega arith)

equal_itself : (o : Ordering) → o ≡ Equal → ordering_index o ≡ 1
equal_itself o e = ap ordering_index e

module _ {K V : Type 0} (R : K → K → Ordering) (o : IsTotalOrder R) (key : K) where
  abbrev pub index : K × V → ℕ
  index row = ordering_index (R row.0 key)

  pub rising : (rows : List (K × V)) → IsSortedByKey (λ row. row.0) R rows → IsNonDecreasingBy index rows
  rising rows sorted = searchable_from_sorted o (λ row. row.0) rows key sorted

  pub split_lt : (rows : List (K × V)) → IsNonDecreasingBy index rows → IsPartitionedBy (λ row. is_lt (R row.0 key)) rows
  split_lt rows up i j d le within h =
      let P = IsPartitionedBy-ltb index rows 1 up in
      sym (lt_is (R (get_or rows i d).0 key)) ∙ P i j d le within (lt_is (R (get_or rows j d).0 key) ∙ h)

  pub split_le : (rows : List (K × V)) → IsNonDecreasingBy index rows → IsPartitionedBy (λ row. is_le (R row.0 key)) rows
  split_le rows up i j d le within h =
      let P = IsPartitionedBy-leb index rows 1 up in
      sym (le_is (R (get_or rows i d).0 key)) ∙ P i j d le within (le_is (R (get_or rows j d).0 key) ∙ h)

  pub rows_at_is : ((x y : K) → R x y ≡ Equal → x ≡ y) → ((x : K) → R x x ≡ Equal) → (rows rest : List (K × V)) (i j : ℕ) → rest ≡ drop i rows → i ≤ length rows → j ≤ length rest → IsPartitionPoint (λ row. is_lt (R row.0 key) ≡ true) (λ row. is_lt (R row.0 key) ≡ false) rows i → IsPartitionPoint (λ row. is_le (R row.0 key) ≡ true) (λ row. is_le (R row.0 key) ≡ false) rest j → (row : K × V) → Contains (take j rest) row ↔ (Contains rows row × (row.0 ≡ key))
  rows_at_is exact itself rows rest i j is_rest within rest_within start end row =
      let both = rows_out index 1 rows rest rows i j is_rest refl within rest_within
      ((λ k d a b. lt_is (R (get_or rows k d).0 key) ∙ start.0 k d a b), (λ k d a b. lt_is (R (get_or rows k d).0 key) ∙ start.1 k d a b))
      ((λ k d a b. le_is (R (get_or rest k d).0 key) ∙ end.0 k d a b), (λ k d a b. le_is (R (get_or rest k d).0 key) ∙ end.1 k d a b)) row in (
        λ h. let r = both.0 h in (r.0, exact row.0 key (equal_index (R row.0 key) r.1)),
        λ r. both.1 (r.0, equal_itself (R row.0 key) (subst (λ k. R row.0 k ≡ Equal) r.1 (itself row.0))),
      )

own_reverse : (o : Ordering) → o ≡ ordering_reverse o → o ≡ Equal
own_reverse Less e = cc
own_reverse Equal e = refl
own_reverse Greater e = cc

-- each key compares equal to itself
pub compares_itself : {K : Type 0} (R : K → K → Ordering) → IsTotalOrder R → (x : K) → R x x ≡ Equal
compares_itself R o x = own_reverse (R x x) (o.antisymm x x)
