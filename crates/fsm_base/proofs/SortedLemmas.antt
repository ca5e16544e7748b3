-- Entries in the order of their texts, and the last of them up to given bytes.
use Rattle.std.proofs.Common.{◌≡◌, ℕ, ◌-◌, ◌<◌, ◌≤◌, zero, suc, true, false, List, [], ◌∷◌, length, Option, Some, None, Contains, MatchOption, SomeIff, get_or, refl, sym, ap, subst, ◌∙◌, inl, inr, arith, true≢false}
use Rattle.std.proofs.lemmas.Bool.{cases_lt}
use Rattle.std.proofs.lemmas.Cmp.{nat_list_cmp_total}
use Rattle.std.proofs.lemmas.List.Elements.{Contains-get_or}
use Rattle.std.proofs.lemmas.List.Sorted.{sorted_far, ranks_by}
use Rattle.std.specs.Cmp.Lexicographic.{slice_cmp}
use Rattle.std.specs.List.Sorted.{IsPartitionedBy, IsPartitionPoint}
use Rattle.std.specs.Ordering.{nat_cmp, is_le, is_lt}
use Rattle.fsm_base.specs.Sorted.{IsByText, IsUpTo, IsLastUpTo, NoneUpTo, texts_in, text_at}
use Rattle.fsm_base.specs.declared.longest.Entry.{Entry}
use Rattle.fsm_base.proofs.OrderLemmas.{IsUpTo-trans, IsUpTo-from_not_less}

-- the text at a place
pub get_or-texts : (entries : List Entry) (i : ℕ) (d : Entry) (t : List ℕ) → i < length entries → get_or (texts_in entries) i t ≡ (get_or entries i d).text
get_or-texts [] i d t l = absurd (omega arith)
get_or-texts (e ∷ entries) zero d t l = refl
get_or-texts (e ∷ entries) (suc i) d t l = get_or-texts entries i d t (omega arith)

pub length-texts : (entries : List Entry) → length (texts_in entries) ≡ length entries
length-texts [] = refl
length-texts (e ∷ entries) = let rest : length (texts_in entries) ≡ length entries = length-texts entries in omega arith

-- an entry stands up to those behind it
earlier_up_to : (entries : List Entry) → IsByText entries → (i j : ℕ) (d : Entry) → i ≤ j → j < length entries → IsUpTo (get_or entries i d).text (get_or entries j d).text
earlier_up_to entries sorted i j d le within =
    IsUpTo-from_not_less (get_or entries j d).text (get_or entries i d).text
    (sorted_far (λ a b. is_lt (slice_cmp nat_cmp a.text b.text)) (ranks_by nat_list_cmp_total (λ (e : Entry). e.text)) entries sorted i j d le within)

-- so the entries up to these bytes stand before the others
pub IsPartitionedBy-texts : (entries : List Entry) (bytes : List ℕ) → IsByText entries → IsPartitionedBy (λ e. is_le (slice_cmp nat_cmp e.text bytes)) entries
IsPartitionedBy-texts entries bytes sorted i j d le within up =
    IsUpTo-trans (get_or entries i d).text (get_or entries j d).text bytes (earlier_up_to entries sorted i j d le within) up

-- and the last of them is the one before the place where they end
module _ (entries : List Entry) (bytes : List ℕ) (sorted : IsByText entries) (count : ℕ) (within : count ≤ length entries)
    (point : IsPartitionPoint (λ e. is_le (slice_cmp nat_cmp e.text bytes) ≡ true) (λ e. is_le (slice_cmp nat_cmp e.text bytes) ≡ false) entries count) where
  -- where a text is found
  found_at : (text : List ℕ) → Contains (texts_in entries) text → (i : ℕ) × (d : Entry) × (i < length entries) × ((get_or entries i d).text ≡ text)
  found_at text h = by entries h.0 h.1 h.2
    where
      by : (es : List Entry) (k : ℕ) → k < length (texts_in es) → get_or (texts_in es) k text ≡ text → (i : ℕ) × (d : Entry) × (i < length es) × ((get_or es i d).text ≡ text)
      by [] k l e = absurd (omega arith)
      by (x ∷ es) k l e = (k, x, omega (arith, l, length-texts (x ∷ es)), sym (get_or-texts (x ∷ es) k x text (omega (arith, l, length-texts (x ∷ es)))) ∙ e)

  pub last_from_point : (r : Option ℕ) → SomeIff r (1 ≤ count) (count - 1) → MatchOption r (NoneUpTo (texts_in entries) bytes) (λ place. (place < length entries) × IsLastUpTo (texts_in entries) bytes (text_at entries place))
  last_from_point None none = λ text among up.
      let at = found_at text among in
      let empty : count ≤ 0 = elim (cases_lt 0 count) as (λ _. count ≤ 0) [ inl some ↦ absurd (none (omega arith)) | inr is ↦ is ] in
      let above : is_le (slice_cmp nat_cmp (get_or entries at.0 at.1).text bytes) ≡ false = point.1 at.0 at.1 (omega arith) at.2 in
      true≢false (sym up ∙ ap (λ t. is_le (slice_cmp nat_cmp t bytes)) (sym at.3) ∙ above)
  last_from_point (Some place) is =
      let one : 1 ≤ count = is.0 in
      let place_is : place ≡ count - 1 = is.1 in
      let inside : place < length entries = omega arith in
      let inside' : place < length (texts_in entries) = omega (arith, length-texts entries) in (
        inside,
        record {
          listed = Contains-get_or (texts_in entries) place [] inside';
          up_to = by_default entries inside refl;
          last = λ text among up.
              let at = found_at text among in
              let before : at.0 < count = elim (cases_lt at.0 count) as (λ _. at.0 < count) [
                | inl l ↦ l
                | inr past ↦ absurd (true≢false (sym up ∙ ap (λ t. is_le (slice_cmp nat_cmp t bytes)) (sym at.3) ∙ point.1 at.0 at.1 past at.2))
              ] in
              subst (λ t. IsUpTo t (text_at entries place)) at.3
              (subst (λ t. IsUpTo (get_or entries at.0 at.1).text t) (sym (get_or-texts entries place at.1 [] inside)) (earlier_up_to entries sorted at.0 place at.1 (omega arith) inside));
        },
      )
    where
      by_default : (es : List Entry) → place < length es → es ≡ entries → IsUpTo (text_at entries place) bytes
      by_default [] l e = absurd (omega arith)
      by_default (x ∷ es) l e =
          let inside : place < length entries = omega (arith, l, ap length e) in
          let one : 1 ≤ count = is.0 in
          let place_is : place ≡ count - 1 = is.1 in
          subst (λ t. IsUpTo t bytes) (sym (get_or-texts entries place x [] inside)) (point.0 place x (omega arith) (omega arith))
