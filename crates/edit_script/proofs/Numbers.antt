-- The words of numbers.
use Rattle.std.proofs.Common.{◌≡◌, ◌≢◌, ◌⊎◌, ◌<◌, ◌≤◌, ℕ, List, [], ◌∷◌, length, slice_get, slice_index_or, Option, Some, None, Result, Ok, Err, sym, ap, subst, ◌∙◌, arith, inl, inr}
use Rattle.std.specs.Int.{IsInRange}
use Rattle.std.specs.Fmt.{decimal}
use Rattle.std.specs.Result.{result_ok}
use Rattle.std.specs.Str.Parse.{ParsesUnsigned, digits_value}
use Rattle.std.proofs.lemmas.Bool.{cases_lt}
use Rattle.std.proofs.lemmas.List.Elements.{All-from_get_or}
use Rattle.std.proofs.lemmas.Str.Parse.{IsNumeralModel, numerals_by_value, parse_plain, tells_by_index}
use Rattle.std.proofs.lemmas.Fmt.{decimal-digits_value, decimal_digit, decimal_injective, digits_decimal, first_decimal, parse-decimal}
use Rattle.edit_script.specs.Commands.{HasNoSpace, IsNumber, most_number}

abbrev AreDigits : List ℕ → Type 0
AreDigits word = (i : ℕ) → i < length word → IsInRange 48 57 (slice_index_or word i 0)

digits : IsNumeralModel AreDigits (digits_value 10)
digits = numerals_by_value AreDigits tells_by_index

number_digits : (n : ℕ) (word : List ℕ) → IsNumber n word → AreDigits word
number_digits n word h = subst AreDigits (sym h.1) (digits_decimal digits n (omega (arith, h.0)))

in_digits : (n : ℕ) → IsInRange 48 57 n → n ≢ 32
in_digits n h e = absurd (omega (arith, h, e))

pub number_no_space : (n : ℕ) (word : List ℕ) → IsNumber n word → HasNoSpace word
number_no_space n word h = All-from_get_or (λ b. b ≢ 32) word 0 (λ i less. in_digits _ (number_digits n word h i less))

pub one_number : (m n : ℕ) (word : List ℕ) → IsNumber m word → IsNumber n word → m ≡ n
one_number m n word p q = decimal_injective m n (omega (arith, p.0)) (omega (arith, q.0)) (sym p.1 ∙ q.1)

first_of : (word : List ℕ) (b : ℕ) → slice_get word 0 ≡ Some b → slice_index_or word 0 0 ≡ b
first_of [] b h = cc
first_of (c ∷ word) b h = cc

some_bytes : (word : List ℕ) (b : ℕ) → slice_get word 0 ≡ Some b → 0 < length word
some_bytes [] b h = cc
some_bytes (c ∷ word) b h = omega arith

pub first_is : (word : List ℕ) (b : ℕ) → 0 < b → slice_index_or word 0 0 ≡ b → slice_get word 0 ≡ Some b
first_is [] b some h = absurd (omega (arith, some, h))
first_is (c ∷ word) b some h = ap (λ (n : ℕ). Some n) h

-- a sign, or a zero that leads
abbrev BeginsWrongly : List ℕ → Type 0
BeginsWrongly word = (slice_get word 0 ≡ Some 43) ⊎ ((slice_get word 0 ≡ Some 48) × (length word ≢ 1))

pub begins_rightly : (word : List ℕ) → BeginsWrongly word → (n : ℕ) → IsNumber n word → ⊥
begins_rightly word (inl sign) n h =
    let range = number_digits n word h 0 (some_bytes word 43 sign) in
    absurd (omega (arith, range, first_of word 43 sign))
begins_rightly word (inr zero) n h = elim (cases_lt 0 n) [
  | inl some ↦
      let high = first_decimal n some (omega (arith, h.0)) in
      let first = first_of (decimal n) 48 (subst (λ (w : List ℕ). slice_get w 0 ≡ Some 48) h.1 zero.0) in
      absurd (omega (arith, high, first))
  | inr none ↦
      let is : n ≡ 0 = omega (arith, none) in
      absurd (zero.1 (ap length (h.1 ∙ ap decimal is ∙ decimal_digit 0 (omega arith))))
]

ok_is : {E : Type 0} (r : Result ℕ E) (x : ℕ) → result_ok r ≡ Some x → r ≡ Ok x
ok_is {E} (Ok y) x h = let same : y ≡ x = cc in ap (λ (n : ℕ). Ok n) same
ok_is {E} (Err e) x h = cc

pub not_read : {E : Type 0} (word : List ℕ) (r : Result ℕ E) → result_ok r ≡ None → ParsesUnsigned 32 10 word r → (n : ℕ) → IsNumber n word → ⊥
not_read {E} word r is h n number =
    let reads = parse-decimal 32 n word r (omega (arith, number.0)) (omega (arith, number.0)) number.1 h in
    let clash : ◌≡◌ {A = Option ℕ} (Some n) None = sym (ap (λ (q : Result ℕ E). result_ok q) reads) ∙ is in
    cc

pub too_great : {E : Type 0} (word : List ℕ) (r : Result ℕ E) (x : ℕ) → result_ok r ≡ Some x → ParsesUnsigned 32 10 word r → most_number < x → (n : ℕ) → IsNumber n word → ⊥
too_great {E} word r x is h great n number =
    let same : ◌≡◌ {A = Result ℕ E} (Ok n) (Ok x) = sym (parse-decimal 32 n word r (omega (arith, number.0)) (omega (arith, number.0)) number.1 h) ∙ ok_is r x is in
    let equal : n ≡ x = cc in
    absurd (omega (arith, number.0, great, equal))

eq_or_not : (m n : ℕ) → (m ≡ n) ⊎ (m ≢ n)
eq_or_not m n = elim (cases_lt m n) [
  | inl less ↦ inr (λ e. absurd (omega (arith, less, e)))
  | inr more ↦ elim (cases_lt n m) [ inl less ↦ inr (λ e. absurd (omega (arith, less, e))) | inr least ↦ inl (omega (arith, more, least)) ]
]

pub number_read : {E : Type 0} (word : List ℕ) (r : Result ℕ E) (x : ℕ) → result_ok r ≡ Some x → ParsesUnsigned 32 10 word r → (BeginsWrongly word → ⊥) → x ≤ most_number → IsNumber x word
number_read {E} word r x is h rightly small =
    let plain = subst (λ (q : Result ℕ E). ParsesUnsigned 32 10 word q) (ok_is r x is) h in
    let reads = parse_plain digits {E = E} 32 word (Ok x) plain (λ sign. rightly (inl (first_is word 43 (omega arith) sign))) in
    let text = decimal-digits_value digits word reads.0.0 reads.0.1 (λ zero. one_byte zero) (omega (arith, reads.0.2)) in
    (small, sym (ap decimal reads.1 ∙ text))
  where
    one_byte : slice_index_or word 0 0 ≡ 48 → length word ≡ 1
    one_byte zero = elim (eq_or_not (length word) 1) [ inl is ↦ is | inr other ↦ absurd (rightly (inr (first_is word 48 (omega arith) zero, other))) ]
