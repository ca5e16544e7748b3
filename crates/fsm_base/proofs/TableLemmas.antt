-- Lists of distinct texts, and what `intern` does to the texts of a table.
use Rattle.std.proofs.Common.{◌≡◌, ℕ, ◌+◌, ◌<◌, ◌≤◌, Bool, true, false, cond, not, ◌||◌, List, [], ◌∷◌, ◌++◌, map, length, take, String, Some, None, All, refl, sym, ap, subst, ◌∙◌, inl, inr, true≢false, slice_get, arith, length-append, zero, suc}
use Rattle.std.proofs.lemmas.Bool.{cases_lt}
use Rattle.std.proofs.lemmas.List.{length-take}
use Rattle.std.proofs.lemmas.List.Elements.{All-append, All-cons, All-nil, All-take}
use Rattle.std.proofs.lemmas.Map.Keys.{apart_from_distinct}
use Rattle.std.proofs.lemmas.Option.{slice_get-map, slice_get_cases, get_or_from_slice_get, same_Some}
use Rattle.std.proofs.lemmas.Slice.Eq.{bytes_eq-Decides}
use Rattle.std.specs.List.{IsDistinct as IsApart, list_any, position_or_len, slice_index_or}
use Rattle.std.specs.Option.{option_map}
use Rattle.std.specs.Str.{bytes_eq}
use Rattle.std.specs.String.{string_bytes, string_eq}
use Rattle.indexmap.specs.IndexSet.{insert_key}
use Rattle.word_relations.specs.Words.{IsDistinct}
use Rattle.fsm_base.specs.Symbols.{IsTable, IsSymbol, number_of, with_text}

module _ {K X : Type 0} (eq : K → K → Bool) (f : K → X) (same : (a b : K) → f a ≡ f b → eq a b ≡ true) where
  -- two places of keys that a test tells apart show different values
  apart_places : (ks : List K) → IsApart eq ks → (i j : ℕ) (x : X) → i < j → slice_get (map f ks) i ≡ Some x → slice_get (map f ks) j ≡ Some x → (i ≡ j)
  apart_places ks apart i j x below at_i at_j =
      elim ((slice_get_cases ks i).1) as (λ _. i ≡ j) [
        | inl p ↦ elim ((slice_get_cases ks j).1) as (λ _. i ≡ j) [
          | inl q ↦
              let fa : f p.0 ≡ x = same_Some _ _ (sym (ap (option_map f) p.2) ∙ sym (slice_get-map f ks i) ∙ at_i) in
              let fb : f q.0 ≡ x = same_Some _ _ (sym (ap (option_map f) q.2) ∙ sym (slice_get-map f ks j) ∙ at_j) in
              let off : eq p.0 q.0 ≡ false = subst (λ v. eq p.0 v ≡ false) (get_or_from_slice_get ks j q.0 p.0 q.2) (subst (λ v. eq v (slice_index_or ks j p.0) ≡ false) p.3 (apart_from_distinct eq ks i j p.0 apart below q.1)) in
              absurd (true≢false (sym (same p.0 q.0 (fa ∙ sym fb)) ∙ off))
          | inr q ↦ let e : None ≡ Some x = sym (slice_get-map f ks j ∙ ap (option_map f) q.1) ∙ at_j in cc
        ]
        | inr p ↦ let e : None ≡ Some x = sym (slice_get-map f ks i ∙ ap (option_map f) p.1) ∙ at_i in cc
      ]

  -- keys that a test tells apart show distinct values
  pub IsDistinct-map : (ks : List K) → IsApart eq ks → IsDistinct (map f ks)
  IsDistinct-map ks apart i j x at_i at_j =
      elim (cases_lt i j) as (λ _. i ≡ j) [
        | inl below ↦ apart_places ks apart i j x below at_i at_j
        | inr above ↦ elim (cases_lt j i) as (λ _. i ≡ j) [
          | inl below ↦ sym (apart_places ks apart j i x below at_j at_i)
          | inr same_place ↦ omega arith
        ]
      ]

-- the strings of a set are distinct texts
pub IsDistinct-strings : {Y : Type 0} (ks : List (String Y)) → IsApart string_eq ks → IsDistinct (map string_bytes ks)
IsDistinct-strings ks apart = IsDistinct-map string_eq string_bytes (λ a b e. (bytes_eq-Decides (string_bytes a) (string_bytes b)).1 e) ks apart

-- an element of a front
pub slice_get_front : {X : Type 0} (n : ℕ) (xs : List X) (i : ℕ) (x : X) → slice_get (take n xs) i ≡ Some x → slice_get xs i ≡ Some x
slice_get_front zero [] i x at = at
slice_get_front zero (y ∷ ys) i x at = cc
slice_get_front (suc n) [] i x at = at
slice_get_front (suc n) (y ∷ ys) zero x at = at
slice_get_front (suc n) (y ∷ ys) (suc i) x at = slice_get_front n ys i x at

-- the front of a list of distinct values
pub IsDistinct-take : {X : Type 0} (n : ℕ) (xs : List X) → IsDistinct xs → IsDistinct (take n xs)
IsDistinct-take n xs apart i j x at_i at_j = apart i j x (slice_get_front n xs i x at_i) (slice_get_front n xs j x at_j)

-- the front of a table is one
pub IsTable-take : (n : ℕ) (texts : List (List ℕ)) → IsTable texts → IsTable (take n texts)
IsTable-take n texts t = record {
  distinct = IsDistinct-take n texts t.distinct;
  symbols = All-take IsSymbol n texts t.symbols;
  few = omega (arith, length-take n texts, t.few);
}

module _ {Y : Type 0} (text : List ℕ) where
  -- what a set of strings says of a text, said of the list of texts
  pub position_or_len-strings : (ks : List (String Y)) → position_or_len (λ k. bytes_eq text (string_bytes k)) ks ≡ number_of text (map string_bytes ks)
  position_or_len-strings [] = refl
  position_or_len-strings (k ∷ ks) = ap (λ (n : ℕ). cond (not (bytes_eq text (string_bytes k))) (1 + n) 0) (position_or_len-strings ks)

  pub list_any-strings : (ks : List (String Y)) → list_any (λ k. bytes_eq text (string_bytes k)) ks ≡ list_any (bytes_eq text) (map string_bytes ks)
  list_any-strings [] = refl
  list_any-strings (k ∷ ks) = ap (λ (b : Bool). bytes_eq text (string_bytes k) || b) (list_any-strings ks)

  pub map-push : (ks : List (String Y)) (k : String Y) → map string_bytes (ks ++ k ∷ []) ≡ map string_bytes ks ++ string_bytes k ∷ []
  map-push [] k = refl
  map-push (x ∷ xs) k = ap (λ (t : List (List ℕ)). string_bytes x ∷ t) (map-push xs k)

-- inserting a string in a set inserts its text
pub with_text-strings : {Y : Type 0} (text : List ℕ) (ks : List (String Y)) (owned : String Y) → string_bytes owned ≡ text → map string_bytes (insert_key string_eq ks owned) ≡ with_text text (map string_bytes ks)
with_text-strings {Y} text ks owned is =
    subst (λ t. map string_bytes (insert_key string_eq ks owned) ≡ with_text t (map string_bytes ks)) is
    (by (list_any (string_eq owned) ks) (list_any (bytes_eq (string_bytes owned)) (map string_bytes ks)) (list_any-strings (string_bytes owned) ks))
  where
    by : (b c : Bool) → b ≡ c → map string_bytes (cond b ks (ks ++ owned ∷ [])) ≡ cond c (map string_bytes ks) (map string_bytes ks ++ string_bytes owned ∷ [])
    by b c e = subst (λ c. map string_bytes (cond b ks (ks ++ owned ∷ [])) ≡ cond c (map string_bytes ks) (map string_bytes ks ++ string_bytes owned ∷ [])) e (split b)
      where
        split : (b : Bool) → map string_bytes (cond b ks (ks ++ owned ∷ [])) ≡ cond b (map string_bytes ks) (map string_bytes ks ++ string_bytes owned ∷ [])
        split true = refl
        split false = map-push (string_bytes owned) ks owned

-- a table with one more text, where the texts are still distinct
pub IsTable-with_text : (text : List ℕ) (texts : List (List ℕ)) → IsTable texts → 0 < length text → length texts < 16777216 → IsDistinct (with_text text texts) → IsTable (with_text text texts)
IsTable-with_text text texts t some room apart = record {
  distinct = apart;
  symbols = both (list_any (bytes_eq text) texts);
  few = room_left (list_any (bytes_eq text) texts);
}
  where
    both : (b : Bool) → All IsSymbol (cond b texts (texts ++ text ∷ []))
    both true = t.symbols
    both false = All-append IsSymbol texts (text ∷ []) t.symbols (All-cons IsSymbol text [] some (All-nil IsSymbol))

    room_left : (b : Bool) → length (cond b texts (texts ++ text ∷ [])) ≤ 16777216
    room_left true = t.few
    room_left false = omega (arith, length-append texts (text ∷ []), room)

-- where the test finds a text in a set of strings, the table stays
pub with_text-held : {Y : Type 0} (text : List ℕ) (ks : List (String Y)) → list_any (λ k. bytes_eq text (string_bytes k)) ks ≡ true → map string_bytes ks ≡ with_text text (map string_bytes ks)
with_text-held text ks held = sym (ap (λ b. cond b (map string_bytes ks) (map string_bytes ks ++ text ∷ [])) (sym (list_any-strings text ks) ∙ held))

-- the number of a text that the test doesn't find is the next one
pub number_of-new : (text : List ℕ) (texts : List (List ℕ)) → list_any (bytes_eq text) texts ≡ false → number_of text texts ≡ length texts
number_of-new text [] new = refl
number_of-new text (t ∷ texts) new = by (bytes_eq text t) refl (number_of-new text texts)
  where
    by : (b : Bool) → bytes_eq text t ≡ b → (list_any (bytes_eq text) texts ≡ false → number_of text texts ≡ length texts) → number_of text (t ∷ texts) ≡ length (t ∷ texts)
    by true e rest = absurd (true≢false (subst (λ b. (b || list_any (bytes_eq text) texts) ≡ false) e new))
    by false e rest =
        let behind : number_of text texts ≡ length texts = rest (subst (λ b. (b || list_any (bytes_eq text) texts) ≡ false) e new) in
        subst (λ b. cond (not b) (1 + number_of text texts) 0 ≡ length (t ∷ texts)) (sym e) (omega (arith, behind))
