-- Words that say how many stems a project is made of.
use Rattle.std.proofs.Common.{◌≡◌, ◌⊎◌, ◌&&◌, ◌<◌, ◌≤◌, ℕ, List, [], ◌∷◌, cond, slice_get, slice_index_or, nat_le, Option, Some, None, Result, Ok, Err, Decides, decimal, sym, ap, subst, ◌∙◌, arith, inl, inr, refl}
use Rattle.std.specs.Result.{result_ok}
use Rattle.std.specs.Str.{bytes_eq}
use Rattle.std.specs.Str.Parse.{AllDigits, ParsesUnsigned, digits_value}
use Rattle.std.proofs.lemmas.Bool.{and_from, and_parts, cond-false, cond-true, false_from_ne_true, leb-true, le-leb}
use Rattle.std.proofs.lemmas.Bool.Decides.{Decides-and}
use Rattle.std.proofs.lemmas.Fmt.{decimal-digits_value, decimal_is_IsNumeral, first_decimal, parse-decimal}
use Rattle.std.proofs.lemmas.Slice.Eq.{bytes_eq-Decides}
use Rattle.std.proofs.lemmas.Str.Parse.{IsNumeralModel, numerals_by_value, parse_plain, tells_digits}
use Rattle.generated_report.specs.Generated.{most_stems}
use Rattle.fsm_program.specs.Ends.{is_made, stems_of}

-- a project is made of so many stems
abbrev pub IsMade : ℕ → Type 0
IsMade stems = (1 ≤ stems) × (stems ≤ most_stems)

pub most_is : most_stems ≡ 20000
unfolding most_stems
most_is = refl

made_decides : (stems : ℕ) → Decides (is_made stems) (IsMade stems)
made_decides stems = Decides-and (nat_le 1 stems) (nat_le stems most_stems) (leb-true 1 stems, le-leb 1 stems) (leb-true stems most_stems, le-leb stems most_stems)

few : (stems : ℕ) → IsMade stems → stems ≤ 20000
few stems made = omega (arith, made.1, most_is)

-- the number of a word
pub says : (stems : ℕ) (word : List ℕ) → word ≡ decimal stems → IsMade stems → stems_of word ≡ Some stems
says stems word is made =
    let small = few stems made in
    let value : digits_value 10 word ≡ stems = ap (λ (w : List ℕ). digits_value 10 w) is ∙ (decimal_is_IsNumeral stems (omega (arith, small))).1 in
    subst (λ (v : ℕ). cond (bytes_eq word (decimal v) && is_made v) (Some v) None ≡ Some stems) (sym value)
    (cond-true (bytes_eq word (decimal stems) && is_made stems) (Some stems) None (and_from _ _ ((bytes_eq-Decides word (decimal stems)).1 is) ((made_decides stems).1 made)))

-- a word that is none
pub says_none : (word : List ℕ) → ((stems : ℕ) → word ≡ decimal stems → IsMade stems → ⊥) → stems_of word ≡ None
says_none word none =
    let v = digits_value 10 word in
    cond-false (bytes_eq word (decimal v) && is_made v) (Some v) None
    (false_from_ne_true _ (λ both. let parts = and_parts (bytes_eq word (decimal v)) (is_made v) both in none v ((bytes_eq-Decides word (decimal v)).0 parts.0) ((made_decides v).0 parts.1)))

-- a sign or a zero
abbrev pub IsNoDigit : List ℕ → Type 0
IsNoDigit word = (slice_get word 0 ≡ Some 43) ⊎ (slice_get word 0 ≡ Some 48)

first_of : (word : List ℕ) (b : ℕ) → slice_get word 0 ≡ Some b → slice_index_or word 0 0 ≡ b
first_of [] b h = cc
first_of (c ∷ word) b h = cc

first_is : (word : List ℕ) (b : ℕ) → 0 < b → slice_index_or word 0 0 ≡ b → slice_get word 0 ≡ Some b
first_is [] b some h = absurd (omega (arith, some, h))
first_is (c ∷ word) b some h = ap (λ (n : ℕ). Some n) h

-- no number of stems begins so
pub no_stems_first : (word : List ℕ) → IsNoDigit word → stems_of word ≡ None
no_stems_first word first = says_none word (λ stems is made.
    let small = few stems made in
    let high = first_decimal stems (omega (arith, made.0)) (omega (arith, small)) in
    let low = elim first as (λ _. slice_index_or word 0 0 ≤ 48) [
      | inl sign ↦ omega (arith, first_of word 43 sign)
      | inr zero ↦ omega (arith, first_of word 48 zero)
    ] in
    absurd (omega (arith, high, rw is at low)))

digits : IsNumeralModel (AllDigits 10) (digits_value 10)
digits = numerals_by_value (AllDigits 10) tells_digits

ok_is : {E : Type 0} (r : Result ℕ E) (x : ℕ) → result_ok r ≡ Some x → r ≡ Ok x
ok_is {E} (Ok y) x h = let same : y ≡ x = cc in ap (λ (n : ℕ). Ok n) same
ok_is {E} (Err e) x h = cc

module _ {E : Type 0} (word : List ℕ) (r : Result ℕ E) (parses : ParsesUnsigned 32 10 word r) where
  reads : (stems : ℕ) → word ≡ decimal stems → IsMade stems → r ≡ Ok stems
  reads stems is made = let small = few stems made in parse-decimal 32 stems word r (omega (arith, small)) (omega (arith, small)) is parses

  -- it isn't read
  pub no_stems_read : result_ok r ≡ None → stems_of word ≡ None
  no_stems_read unread = says_none word (λ stems is made.
      let clash : ◌≡◌ {A = Option ℕ} (Some stems) None = sym (ap (λ (q : Result ℕ E). result_ok q) (reads stems is made)) ∙ unread in cc)

  module _ (x : ℕ) (read : result_ok r ≡ Some x) where
    -- it is beyond what a project is made of
    pub no_stems_beyond : (IsMade x → ⊥) → stems_of word ≡ None
    no_stems_beyond beyond = says_none word (λ stems is made.
        let same : ◌≡◌ {A = Option ℕ} (Some stems) (Some x) = sym (ap (λ (q : Result ℕ E). result_ok q) (reads stems is made)) ∙ read in
        let equal : stems ≡ x = cc in
        beyond (subst IsMade equal made))

    -- it is so many stems
    pub stems_read : (IsNoDigit word → ⊥) → IsMade x → stems_of word ≡ Some x
    stems_read rightly made =
        let small = few x made in
        let plain = subst (λ (q : Result ℕ E). ParsesUnsigned 32 10 word q) (ok_is r x read) parses in
        let reads = parse_plain digits {E = E} 32 word (Ok x) plain (λ sign. rightly (inl (first_is word 43 (omega arith) sign))) in
        let text = decimal-digits_value digits word reads.0.0 reads.0.1 (λ zero. absurd (rightly (inr (first_is word 48 (omega arith) zero)))) (omega (arith, reads.0.2)) in
        says x word (sym (ap decimal reads.1 ∙ text)) made
