-- Where texts stand among distinct ones.
use Rattle.std.proofs.Common.{◌≡◌, ℕ, ◌+◌, ◌≤◌, Bool, true, false, cond, not, suc, zero, List, [], ◌∷◌, ◌++◌, Option, Some, None, String, length, map, get_or, refl, sym, ap, subst, ◌∙◌, arith, slice_get, MatchOption}
use Rattle.std.specs.List.{list_any, position}
use Rattle.std.specs.Option.{is_some, option_map}
use Rattle.std.specs.Str.{bytes_eq}
use Rattle.std.specs.String.{string_bytes}
use Rattle.std.proofs.lemmas.List.Quantifiers.{position-Some}
use Rattle.std.proofs.lemmas.Map.Keys.{any_passes_from_place}
use Rattle.std.proofs.lemmas.Option.{cond_some, slice_get-map, slice_get-get_or, slice_get_within}
use Rattle.std.proofs.lemmas.Slice.Eq.{bytes_eq-Decides}
use Rattle.word_relations.specs.Words.{IsDistinct}
use Rattle.word_relations.proofs.Places.{slice_get-append_left}
use Rattle.fsm_base.specs.Symbols.{number_of, with_text}
use Rattle.fsm_base.proofs.TableLemmas.{list_any-strings, position_or_len-strings}

-- a text that stands at a place is among them
pub held : (text : List ℕ) (texts : List (List ℕ)) (i : ℕ) → slice_get texts i ≡ Some text → list_any (bytes_eq text) texts ≡ true
held text texts i at = any_passes_from_place (bytes_eq text) texts i text at ((bytes_eq-Decides text text).1 refl)

tail_distinct : (t : List ℕ) (texts : List (List ℕ)) → IsDistinct (t ∷ texts) → IsDistinct texts
tail_distinct t texts distinct i j x at_i at_j = let same : suc i ≡ suc j = distinct (suc i) (suc j) x at_i at_j in omega arith

-- and the place is its number
pub placed : (text : List ℕ) (texts : List (List ℕ)) → IsDistinct texts → (i : ℕ) → slice_get texts i ≡ Some text → i ≡ number_of text texts
placed text [] distinct i at = cc
placed text (t ∷ texts) distinct zero at =
    let is : t ≡ text = cc in
    sym (ap (λ b. cond (not b) (1 + number_of text texts) 0) ((bytes_eq-Decides text t).1 (sym is)))
placed text (t ∷ texts) distinct (suc i) at = by (bytes_eq text t) refl (placed text texts (tail_distinct t texts distinct) i at)
  where
    by : (b : Bool) → bytes_eq text t ≡ b → i ≡ number_of text texts → suc i ≡ number_of text (t ∷ texts)
    by true e behind =
        let same : suc i ≡ zero = distinct (suc i) zero text at (ap Some (sym ((bytes_eq-Decides text t).0 e))) in
        absurd (omega arith)
    by false e behind = subst (λ b. suc i ≡ cond (not b) (1 + number_of text texts) 0) (sym e) (omega (arith, behind))

-- the number of a text is that of a place, or that behind all
pub number_within : (text : List ℕ) (texts : List (List ℕ)) → number_of text texts ≤ length texts
number_within text [] = omega arith
number_within text (t ∷ texts) = by (bytes_eq text t) refl (number_within text texts)
  where
    by : (b : Bool) → bytes_eq text t ≡ b → number_of text texts ≤ length texts → number_of text (t ∷ texts) ≤ length (t ∷ texts)
    by true e behind = subst (λ b. cond (not b) (1 + number_of text texts) 0 ≤ length (t ∷ texts)) (sym e) (omega arith)
    by false e behind = subst (λ b. cond (not b) (1 + number_of text texts) 0 ≤ length (t ∷ texts)) (sym e) (omega (arith, behind))

module _ {Y : Type 0} (text : List ℕ) (ks : List (String Y)) where
  -- a string with the text stands there for it
  pub read_at : (i : ℕ) (k : String Y) → slice_get ks i ≡ Some k → string_bytes k ≡ text → slice_get (map string_bytes ks) i ≡ Some text
  read_at i k at is = slice_get-map string_bytes ks i ∙ ap (option_map string_bytes) at ∙ ap Some is

  found_at : (i : ℕ) → position (λ k. bytes_eq text (string_bytes k)) ks ≡ Some i → slice_get (map string_bytes ks) i ≡ Some text
  found_at i e = by ks e
    where
      by : (ks : List (String Y)) → position (λ k. bytes_eq text (string_bytes k)) ks ≡ Some i → slice_get (map string_bytes ks) i ≡ Some text
      by [] found = cc
      by (k ∷ ks) found =
          let r = position-Some (λ q. bytes_eq text (string_bytes q)) (k ∷ ks) i k found in
          slice_get-map string_bytes (k ∷ ks) i ∙ ap (option_map string_bytes) (slice_get-get_or (k ∷ ks) i k r.0)
          ∙ ap Some (sym ((bytes_eq-Decides text (string_bytes (get_or (k ∷ ks) i k))).0 r.1))

  -- what a search by hash answers
  pub searched : (r : Option ℕ) → r ≡ position (λ k. bytes_eq text (string_bytes k)) ks → is_some r ≡ list_any (λ k. bytes_eq text (string_bytes k)) ks
      → MatchOption r (list_any (bytes_eq text) (map string_bytes ks) ≡ false) (λ place. (slice_get (map string_bytes ks) place ≡ Some text) × (place ≡ number_of text (map string_bytes ks)))
  searched None index found = sym (list_any-strings text ks) ∙ sym found
  searched (Some i) index found = (found_at i (sym index), sym (cond_some _ _ _ (sym index)).1 ∙ position_or_len-strings text ks)

-- a text that is among them isn't added
pub unchanged : (text : List ℕ) (texts : List (List ℕ)) → list_any (bytes_eq text) texts ≡ true → texts ≡ with_text text texts
unchanged text texts among = sym (ap (λ b. cond b texts (texts ++ text ∷ [])) among)

-- texts that are there stay where they are
pub kept : (text : List ℕ) (texts : List (List ℕ)) (i : ℕ) (t : List ℕ) → slice_get texts i ≡ Some t → slice_get (with_text text texts) i ≡ Some t
kept text texts i t at = by (list_any (bytes_eq text) texts)
  where
    by : (b : Bool) → slice_get (cond b texts (texts ++ text ∷ [])) i ≡ Some t
    by true = at
    by false = slice_get-append_left texts (text ∷ []) i (slice_get_within texts i t at) ∙ at
