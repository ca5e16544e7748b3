-- Where the letters of a string stand among those of automata, and sets of pairs.
use Rattle.std.proofs.Common.{◌≡◌, ◌<◌, ◌+◌, ◌-◌, ◌↔◌, ◌⊎◌, ℕ, zero, suc, List, Option, [], ◌∷◌, ◌++◌, Some, None, length, take, get_or, reverse, refl, sym, ap, subst, ◌∙◌, inl, inr, arith}
use Rattle.std.specs.List.{slice_get, Contains, All}
use Rattle.std.specs.Option.{option_map}
use Rattle.std.proofs.lemmas.List.{get_or-reverse, length_push, length-map, length-reverse, take_more, map-append}
use Rattle.std.proofs.lemmas.List.Elements.{All-nil, All-cons, All-head, All-tail, Contains-append_left, Contains-push, Contains-push_cases}
use Rattle.std.proofs.lemmas.Option.{same_Some, slice_get-map, slice_get_within}
use Rattle.fsm_base.specs.declared.letters.Pair.{Pair}
use Rattle.fsm_base.specs.declared.letters.Bound.{Bound}
use Rattle.fsm_base.specs.declared.letters.Bound.TheVariants.{Edge, Inner}
use Rattle.word_relations.specs.Words.{IsDistinct, IsOver}
use Rattle.word_relations.proofs.Places.{slice_get-append_cases, slice_get-append_left, slice_get-push}
use Rattle.word_relations.proofs.Members.{Contains-cons_cases, Contains-map, Contains-map_cases}
use Rattle.expr_meaning.specs.Operators.{inner}
use Rattle.network_algebra.specs.Networks.{all_letters}
use Rattle.indexmap.specs.IndexSet.{insert_key}
use Rattle.grammar_pairs.proofs.Found.{pair_eq, same_pair}
use Rattle.grammar_pairs.proofs.Growing.{inserted}
use Rattle.pair_test.specs.Marks.{AreAt}
use Rattle.pair_test.specs.Tests.{edge_before, placed_letters}

-- an element alone
only_one : {X : Type 0} (p q : X) (j : ℕ) → slice_get (p ∷ []) j ≡ Some q → (j ≡ 0) × (p ≡ q)
only_one p q zero is = (refl, same_Some p q is)
only_one p q (suc j) is = let e : None ≡ Some q = is in cc

module _ {L : Type 0} (letters : List L) where
  pub at_more : (places : List ℕ) (word : List L) (p : ℕ) (x : L) → AreAt letters places word → slice_get letters p ≡ Some x → AreAt letters (places ++ p ∷ []) (word ++ x ∷ [])
  at_more places word p x are here =
      record {
        count = length_push places p ∙ ap (λ n. n + 1) are.count ∙ sym (length_push word x);
        each = each;
      }
    where
      each : (k place : ℕ) → slice_get (places ++ p ∷ []) k ≡ Some place → slice_get letters place ≡ slice_get (word ++ x ∷ []) k
      each k place is =
          elim (slice_get-append_cases places (p ∷ []) k place is) as (λ _. slice_get letters place ≡ slice_get (word ++ x ∷ []) k) [
            | inl old ↦ are.each k place old ∙ sym (slice_get-append_left word (x ∷ []) k (let c : length places ≡ length word = are.count in let w : k < length places = slice_get_within places k place old in omega (arith, c, w)))
            | inr (j, k_is, at) ↦
                let one = only_one p place j at in
                let last : k ≡ length word = let c : length places ≡ length word = are.count in let z : j ≡ 0 = one.0 in omega (arith, k_is, z, c) in
                ap (slice_get letters) (sym one.1) ∙ here ∙ sym (ap (slice_get (word ++ x ∷ [])) last ∙ slice_get-push word x)
          ]

module _ (keys : List Pair) where
  pub placed_pair : (k : ℕ) (x : Pair) → slice_get keys k ≡ Some x → slice_get (placed_letters keys) k ≡ Some (Inner x)
  placed_pair k x is =
      slice_get-append_left (inner keys) (Edge ∷ []) k (let l : length (inner keys) ≡ length keys = length-map keys Inner in let w : k < length keys = slice_get_within keys k x is in omega (arith, l, w))
      ∙ slice_get-map Inner keys k ∙ ap (option_map Inner) is

  pub placed_edge : slice_get (placed_letters keys) (length keys) ≡ Some Edge
  placed_edge = ap (slice_get (placed_letters keys)) (sym (length-map keys Inner)) ∙ slice_get-push (inner keys) Edge

  pub at_start : (n : ℕ) → n ≡ length keys → AreAt (placed_letters keys) (n ∷ []) (edge_before [])
  at_start n is =
      record {
        count = refl;
        each = λ k place at. let one = only_one n place k at in
            ap (slice_get (placed_letters keys)) (sym one.1 ∙ is) ∙ placed_edge ∙ ap (slice_get (edge_before [])) (sym one.0);
      }

  pub at_pair : (places new : List ℕ) (word : List Pair) (i : ℕ) (d : Pair) (p : ℕ) → i < length word → AreAt (placed_letters keys) places (edge_before (take i word)) → slice_get keys p ≡ Some (get_or word i d)
      → new ≡ places ++ p ∷ [] → AreAt (placed_letters keys) new (edge_before (take (i + 1) word))
  at_pair places new word i d p within are here new_is =
      let longer : take (i + 1) word ≡ take i word ++ get_or word i d ∷ [] = take_more word i d within in
      let whole : edge_before (take (i + 1) word) ≡ edge_before (take i word) ++ Inner (get_or word i d) ∷ [] =
      ap (λ (z : List Pair). edge_before z) longer ∙ ap (λ (z : List (Bound Pair)). Edge ∷ z) (map-append Inner (take i word) (get_or word i d ∷ [])) in
      subst (λ (z : List ℕ). AreAt (placed_letters keys) z (edge_before (take (i + 1) word))) (sym new_is)
      (subst (AreAt (placed_letters keys) (places ++ p ∷ [])) (sym whole) (at_more (placed_letters keys) places (edge_before (take i word)) p (Inner (get_or word i d)) are (placed_pair p (get_or word i d) here)))

  -- each letter once
  edge_apart : (x : Pair) → Inner x ≡ Edge → ⊥
  edge_apart x e = cc

  inner_same : (x y : Pair) → Inner x ≡ Inner y → x ≡ y
  inner_same x y e = cc

  pub placed_distinct : IsDistinct keys → IsDistinct (placed_letters keys)
  placed_distinct distinct i j x first second =
      elim (slice_get-append_cases (inner keys) (Edge ∷ []) i x first) as (λ _. i ≡ j) [
        | inl a ↦ elim (slice_get-append_cases (inner keys) (Edge ∷ []) j x second) as (λ _. i ≡ j) [
          | inl b ↦ inside i j x a b
          | inr (m, j_is, last) ↦ absurd (not_both i x m a last)
        ]
        | inr (m, i_is, last) ↦ elim (slice_get-append_cases (inner keys) (Edge ∷ []) j x second) as (λ _. i ≡ j) [
          | inl b ↦ absurd (not_both j x m b last)
          | inr (n, j_is, other) ↦ let a : m ≡ 0 = (only_one Edge x m last).0 in let b : n ≡ 0 = (only_one Edge x n other).0 in omega (arith, i_is, j_is, a, b)
        ]
      ]
    where
      under : (k : ℕ) (y : Bound Pair) → slice_get (inner keys) k ≡ Some y → (x : Pair) × (slice_get keys k ≡ Some x) × (Inner x ≡ y)
      under k y at = by (slice_get keys k) refl
        where
          by : (o : Option Pair) → slice_get keys k ≡ o → (x : Pair) × (slice_get keys k ≡ Some x) × (Inner x ≡ y)
          by None e = let clash : None ≡ Some y = ap (option_map Inner) (sym e) ∙ sym (slice_get-map Inner keys k) ∙ at in absurd (cc)
          by (Some x) e = (x, e, same_Some (Inner x) y (ap (option_map Inner) (sym e) ∙ sym (slice_get-map Inner keys k) ∙ at))

      inside : (i j : ℕ) (x : Bound Pair) → slice_get (inner keys) i ≡ Some x → slice_get (inner keys) j ≡ Some x → i ≡ j
      inside i j x a b =
          let u = under i x a in
          let v = under j x b in
          let same : v.0 ≡ u.0 = inner_same v.0 u.0 (v.2 ∙ sym u.2) in
          distinct i j u.0 u.1 (v.1 ∙ ap (λ (y : Pair). Some y) same)

      not_both : (k : ℕ) (x : Bound Pair) (m : ℕ) → slice_get (inner keys) k ≡ Some x → slice_get (Edge ∷ []) m ≡ Some x → ⊥
      not_both k x m a last = let u = under k x a in edge_apart u.0 (u.2 ∙ sym (only_one Edge x m last).1)

  -- which letters there are
  pub placed_inner : (x : Pair) → Contains keys x → Contains (placed_letters keys) (Inner x)
  placed_inner x among = Contains-append_left (inner keys) (Edge ∷ []) (Inner x) (Contains-map Inner keys x among)

  pub placed_last : Contains (placed_letters keys) Edge
  placed_last = Contains-push (inner keys) Edge

  pub placed_among : (pairs : List Pair) → ((x : Pair) → Contains pairs x → Contains keys x) → (x : Bound Pair) → Contains (all_letters pairs) x → Contains (placed_letters keys) x
  placed_among pairs all x among =
      elim (Contains-cons_cases Edge (inner pairs) x among) as (λ _. Contains (placed_letters keys) x) [
        | inl e ↦ subst (Contains (placed_letters keys)) e placed_last
        | inr more ↦ let r = Contains-map_cases Inner pairs x more in subst (Contains (placed_letters keys)) r.2 (placed_inner r.0 (all r.0 r.1))
      ]

  pub placed_over : (u : List Pair) → IsOver keys u → IsOver (placed_letters keys) (inner u)
  placed_over [] over = All-nil (Contains (placed_letters keys))
  placed_over (x ∷ u) over =
      All-cons (Contains (placed_letters keys)) (Inner x) (inner u) (placed_inner x (All-head (Contains keys) x u over)) (placed_over u (All-tail (Contains keys) x u over))

  pub edge_over : (u : List Pair) → IsOver keys u → IsOver (placed_letters keys) (edge_before u)
  edge_over u over = All-cons (Contains (placed_letters keys)) Edge (inner u) placed_last (placed_over u over)

-- what is of a list is of it read backwards
pub All-reverse : {X : Type 0} (P : X → Type 0) (xs : List X) → All P xs → All P (reverse xs)
All-reverse P xs all k d less =
    let within : k < length xs = let l : length (reverse xs) ≡ length xs = length-reverse xs in omega (arith, l, less) in
    subst P (sym (get_or-reverse xs k d within)) (all (length xs - 1 - k) d (omega (arith, within)))

-- the set with one pair more
pub set_more : (old new xs : List Pair) (k : Pair) → ((s : Pair) → Contains new s ↔ (Contains old s ⊎ (k ≡ s))) → ((s : Pair) → Contains old s ↔ Contains xs s) → (s : Pair) → Contains new s ↔ Contains (xs ++ k ∷ []) s
set_more old new xs k grown same s = (
  λ h. elim ((grown s).0 h) as (λ _. Contains (xs ++ k ∷ []) s) [
    | inl before ↦ Contains-append_left xs (k ∷ []) s ((same s).0 before)
    | inr is ↦ subst (Contains (xs ++ k ∷ [])) is (Contains-push xs k)
  ],
  λ h. (grown s).1 (elim (Contains-push_cases xs k s h) as (λ _. Contains old s ⊎ (k ≡ s)) [
    | inl before ↦ inl ((same s).1 before)
    | inr is ↦ inr is
  ]),
)

pub set_inserted : (all : List Pair) (i : ℕ) (d : Pair) (old new : List Pair) → i < length all → new ≡ insert_key pair_eq old (get_or all i d) → ((s : Pair) → Contains old s ↔ Contains (take i all) s)
    → (s : Pair) → Contains new s ↔ Contains (take (i + 1) all) s
set_inserted all i d old new within is same =
    let x = get_or all i d in
    let longer : take (i + 1) all ≡ take i all ++ x ∷ [] = take_more all i d within in
    subst (λ (z : List Pair). (s : Pair) → Contains new s ↔ Contains z s) (sym longer)
    (set_more old new (take i all) x (subst (λ (z : List Pair). (s : Pair) → Contains z s ↔ (Contains old s ⊎ (x ≡ s))) (sym is) (inserted pair_eq same_pair old x)) same)
