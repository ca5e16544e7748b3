-- Texts that differ and are sorted stand in the order of their bytes, each once.
use Rattle.std.proofs.Common.{◌≡◌, ℕ, ◌+◌, ◌<◌, suc, Bool, true, false, List, [], ◌∷◌, length, get_or, Some, refl, sym, ap, subst, ◌∙◌, arith, true≢false}
use Rattle.std.specs.declared.cmp.Ordering.{Ordering}
use Rattle.std.specs.declared.cmp.Ordering.TheVariants.{Less, Equal, Greater}
use Rattle.std.proofs.lemmas.Cmp.{eq_by_cmp_equiv, nat_list_cmp_total}
use Rattle.std.proofs.lemmas.Map.Keys.{IsDistinct-from_apart, IsDistinct-IsPermutation, IsDistinct-tail, apart_from_distinct}
use Rattle.std.proofs.lemmas.Map.Text.{is_eq-slice_cmp}
use Rattle.std.proofs.lemmas.Option.{slice_get-get_or}
use Rattle.std.proofs.lemmas.Slice.Eq.{bytes_eq-Decides}
use Rattle.std.specs.Cmp.Lexicographic.{slice_cmp}
use Rattle.std.specs.List.{IsDistinct as IsApart}
use Rattle.std.specs.List.Sorted.{IsPermutation, IsSorted}
use Rattle.std.specs.Ordering.{eq_by_cmp, is_eq, is_lt, nat_cmp, ordering_reverse}
use Rattle.word_relations.specs.Words.{IsDistinct}
use Rattle.word_relations.specs.Answers.{IsInOrder}

abbrev order : List ℕ → List ℕ → Ordering
order = slice_cmp nat_cmp

same_from_tie : (x y : List ℕ) → is_eq (order x y) ≡ true → x ≡ y
same_from_tie x y tie = (bytes_eq-Decides x y).0 (sym (is_eq-slice_cmp x y) ∙ tie)

apart_from : (texts : List (List ℕ)) → IsDistinct texts → IsApart (eq_by_cmp order) texts
apart_from texts distinct = IsDistinct-from_apart (eq_by_cmp order) texts at
  where
    at : (i j : ℕ) (d : List ℕ) → i < j → j < length texts → eq_by_cmp order (get_or texts i d) (get_or texts j d) ≡ false
    at i j d below within = by (eq_by_cmp order (get_or texts i d) (get_or texts j d)) refl
      where
        by : (b : Bool) → eq_by_cmp order (get_or texts i d) (get_or texts j d) ≡ b → b ≡ false
        by true tie =
            let same = same_from_tie (get_or texts i d) (get_or texts j d) tie in
            let place : i ≡ j = distinct i j (get_or texts i d) (slice_get-get_or texts i d (omega arith)) (slice_get-get_or texts j d within ∙ ap (λ (t : List ℕ). Some t) (sym same)) in
            absurd (omega arith)
        by false tie = refl

less_from : (o p : Ordering) → o ≡ ordering_reverse p → is_lt p ≡ false → is_eq o ≡ false → o ≡ Less
less_from o Less back not_less apart = absurd (true≢false not_less)
less_from o Equal back not_less apart = absurd (true≢false (sym (ap is_eq back) ∙ apart))
less_from o Greater back not_less apart = back

in_order : (texts : List (List ℕ)) → IsSorted order texts → IsApart (eq_by_cmp order) texts → IsInOrder texts
in_order [] sorted apart = tt
in_order (x ∷ []) sorted apart = tt
in_order (x ∷ y ∷ texts) sorted apart = (
  less_from (order x y) (order y x) (nat_list_cmp_total.antisymm x y) (sorted 0 x (omega arith) (omega arith)) (apart_from_distinct (eq_by_cmp order) (x ∷ y ∷ texts) 0 1 x apart (omega arith) (omega arith)),
  in_order (y ∷ texts) (λ k d low high. subst (λ (n : ℕ). is_lt (order (get_or (x ∷ y ∷ texts) n d) (get_or (y ∷ texts) k d)) ≡ false) (next k) (sorted (suc k) d (omega arith) (omega arith))) (IsDistinct-tail (eq_by_cmp order) x (y ∷ texts) apart),
)
  where
    next : (k : ℕ) → suc k + 1 ≡ suc (k + 1)
    next k = omega arith

pub in_order_from_sorted : (texts sorted : List (List ℕ)) → IsDistinct texts → IsPermutation texts sorted → IsSorted order sorted → IsInOrder sorted
in_order_from_sorted texts sorted distinct moved up = in_order sorted up (IsDistinct-IsPermutation (eq_by_cmp order) (eq_by_cmp_equiv nat_list_cmp_total).symm texts sorted moved (apart_from texts distinct))
