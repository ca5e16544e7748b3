-- Whether a list of texts has a text, and at which place.
use Rattle.std.proofs.Common.{◌≡◌, ℕ, ◌+◌, ◌≤◌, Bool, true, false, cond, not, suc, ◌||◌, List, [], ◌∷◌, ◌++◌, map, length, Some, slice_get, refl, sym, ap, subst, ◌∙◌, inl, inr, true≢false, arith, length-append, String}
use Rattle.std.proofs.lemmas.List.{length-map}
use Rattle.std.proofs.lemmas.List.Elements.{Contains-append_right}
use Rattle.std.proofs.lemmas.Option.{cond_some}
use Rattle.std.proofs.lemmas.Slice.Eq.{bytes_eq-Decides}
use Rattle.std.specs.List.{Contains, list_any, position}
use Rattle.std.specs.Str.{bytes_eq}
use Rattle.std.specs.String.{string_bytes}
use Rattle.fsm_base.specs.Symbols.{number_of, with_text}
use Rattle.fsm_base.proofs.TableLemmas.{list_any-strings, number_of-new, position_or_len-strings}
use Rattle.word_relations.proofs.Members.{Contains-nil_cases, Contains-head, Contains-tail, Contains-cons_cases}

or_true : (b : Bool) → (b || true) ≡ true
or_true true = refl
or_true false = refl

-- a text that a list has is found in it
pub any_from_has : (text : List ℕ) (texts : List (List ℕ)) → Contains texts text → list_any (bytes_eq text) texts ≡ true
any_from_has text [] among = absurd (Contains-nil_cases text among)
any_from_has text (t ∷ texts) among =
    elim (Contains-cons_cases t texts text among) as (λ _. list_any (bytes_eq text) (t ∷ texts) ≡ true) [
      | inl is ↦ ap (λ (b : Bool). b || list_any (bytes_eq text) texts) ((bytes_eq-Decides text t).1 (sym is))
      | inr behind ↦ ap (λ (b : Bool). bytes_eq text t || b) (any_from_has text texts behind) ∙ or_true (bytes_eq text t)
    ]

pub has_from_any : (text : List ℕ) (texts : List (List ℕ)) → list_any (bytes_eq text) texts ≡ true → Contains texts text
has_from_any text [] any = cc
has_from_any text (t ∷ texts) any = by (bytes_eq text t) refl (has_from_any text texts)
  where
    by : (b : Bool) → bytes_eq text t ≡ b → (list_any (bytes_eq text) texts ≡ true → Contains texts text) → Contains (t ∷ texts) text
    by true e rest = subst (λ (u : List ℕ). Contains (u ∷ texts) text) ((bytes_eq-Decides text t).0 e) (Contains-head text texts)
    by false e rest = Contains-tail t texts text (rest (subst (λ (b : Bool). (b || list_any (bytes_eq text) texts) ≡ true) e any))

pub not_had : (text : List ℕ) (texts : List (List ℕ)) → list_any (bytes_eq text) texts ≡ false → ¬ (Contains texts text)
not_had text texts none among = absurd (true≢false (sym (any_from_has text texts among) ∙ none))

pub with_text-new : (text : List ℕ) (texts : List (List ℕ)) → list_any (bytes_eq text) texts ≡ false → with_text text texts ≡ texts ++ text ∷ []
with_text-new text texts none = ap (λ b. cond b texts (texts ++ text ∷ [])) none

pub one_longer : (text : List ℕ) (texts : List (List ℕ)) (most : ℕ) → length texts ≤ most → length (with_text text texts) ≤ most + 1
one_longer text texts most few = by (list_any (bytes_eq text) texts)
  where
    by : (b : Bool) → length (cond b texts (texts ++ text ∷ [])) ≤ most + 1
    by true = omega (arith, few)
    by false = omega (arith, few, length-append texts (text ∷ []))

-- the number of a text among strings
pub numbered : {Y : Type 0} (text : List ℕ) (ks : List (String Y)) (i : ℕ) → Some i ≡ position (λ k. bytes_eq text (string_bytes k)) ks
    → i ≡ number_of text (map string_bytes ks)
numbered text ks i index = sym (cond_some _ _ _ (sym index)).1 ∙ position_or_len-strings text ks

pub not_numbered : {Y : Type 0} (text : List ℕ) (ks : List (String Y)) → false ≡ list_any (λ k. bytes_eq text (string_bytes k)) ks
    → length ks ≡ number_of text (map string_bytes ks)
not_numbered text ks found = sym (length-map ks string_bytes) ∙ sym (number_of-new text (map string_bytes ks) (sym (list_any-strings text ks) ∙ sym found))

-- a text that a list has stands at its number
pub number_held : (text : List ℕ) (texts : List (List ℕ)) → list_any (bytes_eq text) texts ≡ true → slice_get texts (number_of text texts) ≡ Some text
number_held text [] any = cc
number_held text (t ∷ texts) any = by (bytes_eq text t) refl (number_held text texts)
  where
    one_more : (n : ℕ) → 1 + n ≡ suc n
    one_more n = omega arith

    by : (b : Bool) → bytes_eq text t ≡ b → (list_any (bytes_eq text) texts ≡ true → slice_get texts (number_of text texts) ≡ Some text)
        → slice_get (t ∷ texts) (number_of text (t ∷ texts)) ≡ Some text
    by true e rest = subst (λ b. slice_get (t ∷ texts) (cond (not b) (1 + number_of text texts) 0) ≡ Some text) (sym e) (ap (λ (x : List ℕ). Some x) (sym ((bytes_eq-Decides text t).0 e)))
    by false e rest =
        let behind = rest (subst (λ (b : Bool). (b || list_any (bytes_eq text) texts) ≡ true) e any) in
        subst (λ b. slice_get (t ∷ texts) (cond (not b) (1 + number_of text texts) 0) ≡ Some text) (sym e) (subst (λ n. slice_get (t ∷ texts) n ≡ Some text) (sym (one_more (number_of text texts))) behind)

-- a table has a text that is put into it
pub text_with : (text : List ℕ) (texts : List (List ℕ)) → Contains (with_text text texts) text
text_with text texts = by (list_any (bytes_eq text) texts) refl
  where
    by : (b : Bool) → list_any (bytes_eq text) texts ≡ b → Contains (with_text text texts) text
    by true e = subst (λ b. Contains (cond b texts (texts ++ text ∷ [])) text) (sym e) (has_from_any text texts e)
    by false e = subst (λ b. Contains (cond b texts (texts ++ text ∷ [])) text) (sym e) (Contains-append_right texts (text ∷ []) text (Contains-head text []))
