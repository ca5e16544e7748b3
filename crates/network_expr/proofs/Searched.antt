-- The part of a name, where the numbers of parts rise.
use Rattle.std.proofs.Common.{◌≡◌, ◌<◌, ◌≤◌, ◌+◌, ◌==◌, ℕ, zero, suc, Bool, false, true, cond, List, [], ◌∷◌, None, Some, Ok, Err, length, get_or, refl, sym, ap, ◌∙◌, inl, inr, arith}
use Rattle.std.specs.List.{AllPairs}
use Rattle.std.specs.Cmp.{nat_cmp_is}
use Rattle.std.specs.List.Sorted.{IsBinarySearchResult}
use Rattle.std.specs.Ordering.{is_lt, nat_cmp}
use Rattle.std.specs.declared.cmp.Ordering.TheVariants.{Less, Equal, Greater}
use Rattle.std.proofs.lemmas.Bool.{cases_lt}
use Rattle.std.proofs.lemmas.Bool.Decides.{nat_tests}
use Rattle.std.proofs.lemmas.Cmp.{nat_cmp_total}
use Rattle.std.proofs.lemmas.List.Sorted.{searchable_from_sorted}
use Rattle.std.proofs.lemmas.Map.Lookups.{exact_unsigned}
use Rattle.network_expr.specs.Parts.{part_of}
use Rattle.network_expr.specs.declared.parts.Part.{Part}

abbrev pub AreRising : List Part → Type 0
AreRising parts = AllPairs (λ one next. one.name < next.name) parts

same_number : (n m : ℕ) → n ≡ m → (n == m) ≡ true
same_number n m e = grind (arith, nat_tests)

apart : (n m : ℕ) → (n ≡ m → ⊥) → (n == m) ≡ false
apart n m e = grind (arith, nat_tests)

-- what is known of the later parts
later : (p : Part) (parts : List Part) → AreRising (p ∷ parts) → AreRising parts
later p parts rising i j d less within = rising (suc i) (suc j) d (omega arith) (omega arith)

below : (p : Part) (parts : List Part) → AreRising (p ∷ parts) → (k : ℕ) (d : Part) → k < length parts → p.name < (get_or parts k d).name
below p parts rising k d within = rising zero (suc k) d (omega arith) (omega arith)

-- the part at a place with the number is the one that is found
pub found_at : (parts : List Part) (name k : ℕ) (d : Part) → AreRising parts → k < length parts → (get_or parts k d).name ≡ name → part_of parts name ≡ Some (get_or parts k d)
found_at [] name k d rising within is = absurd (omega arith)
found_at (p ∷ parts) name zero d rising within is = ap (λ (b : Bool). cond b (Some p) (part_of parts name)) (same_number p.name name is)
found_at (p ∷ parts) name (suc k) d rising within is =
    let inside : k < length parts = omega arith in
    let less : p.name < (get_or parts k d).name = below p parts rising k d inside in
    let other : p.name ≡ name → ⊥ = λ e. omega (arith, less, is, e) in
    ap (λ (b : Bool). cond b (Some p) (part_of parts name)) (apart p.name name other) ∙ found_at parts name k d (later p parts rising) inside is

-- where no part has the number, none is found
pub none_found : (parts : List Part) (name : ℕ) → ((k : ℕ) (d : Part) → k < length parts → (get_or parts k d).name ≡ name → ⊥) → part_of parts name ≡ None
none_found [] name none = refl
none_found (p ∷ parts) name none =
    ap (λ (b : Bool). cond b (Some p) (part_of parts name)) (apart p.name name (none zero p (omega arith)))
    ∙ none_found parts name (λ k d within. none (suc k) d (omega arith))

module _ (parts : List Part) (name : ℕ) (rising : AreRising parts) where
  sorted : (k : ℕ) (d : Part) → 0 ≤ k → k + 1 < length parts → is_lt (nat_cmp (get_or parts (k + 1) d).name (get_or parts k d).name) ≡ false
  sorted k d low high = ap is_lt (sym (nat_cmp_is (get_or parts (k + 1) d).name (get_or parts k d).name Greater (rising k (k + 1) d (omega arith) high)))

  -- what a search by the number answers
  pub has_number : (i : ℕ) → IsBinarySearchResult (λ p. nat_cmp p.name name) parts (Ok i) → (d : Part) → (get_or parts i d).name ≡ name
  has_number i found d = exact_unsigned (get_or parts i d).name name (found d)

  pub has_no_number : (i : ℕ) → IsBinarySearchResult (λ p. nat_cmp p.name name) parts (Err i) → (k : ℕ) (d : Part) → k < length parts → (get_or parts k d).name ≡ name → ⊥
  has_no_number i split k d within is =
      let point = split (searchable_from_sorted nat_cmp_total (λ (p : Part). p.name) parts name sorted) in
      let equal : Equal ≡ nat_cmp (get_or parts k d).name name = nat_cmp_is (get_or parts k d).name name Equal is in
      elim (cases_lt k i) as (λ _. ⊥) [
        | inl front ↦ (let less : nat_cmp (get_or parts k d).name name ≡ Less = point.0 k d (omega arith) front in let never : Equal ≡ Less = equal ∙ less in cc)
        | inr back ↦ (let greater : nat_cmp (get_or parts k d).name name ≡ Greater = point.1 k d back within in let never : Equal ≡ Greater = equal ∙ greater in cc)
      ]
