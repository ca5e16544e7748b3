-- States as they are written: decimal numbers.
use Rattle.std.proofs.Common.{◌≡◌, ◌<◌, ◌^◌, ◌==◌, ℕ, Bool, true, false, not, cond, ◌&&◌, List, [], ◌∷◌, length, get_or, Some, None, Result, Ok, Err, MatchResult, refl, sym, subst, ap, ◌∙◌, inl, inr, arith}
use Rattle.std.specs.Prelude.{decimal, nat_lt}
use Rattle.std.specs.List.{list_all}
use Rattle.std.specs.Char.{is_ascii_digit}
use Rattle.std.specs.Str.{all_ascii_digits}
use Rattle.std.specs.Str.Parse.{digits_value, ParsesUnsigned}
use Rattle.std.specs.Result.{OkIff}
use Rattle.std.proofs.lemmas.Bool.{ne_eqb, eqb-false, lt-ltb, ltb-true, false≢true, cases_lt}
use Rattle.std.proofs.lemmas.Fmt.{decimal_digit, decimal_nonempty, first_decimal, digits_decimal, digits_value-decimal, decimal-digits_value}
use Rattle.std.proofs.lemmas.Str.Parse.{IsNumeralModel, numerals_by_value, tells_all_ascii_digits, parse_digits}
use Rattle.att_text.specs.Lines.{is_decimal, state_of}

pub own : IsNumeralModel (λ ds. all_ascii_digits ds ≡ true) (digits_value 10)
own = numerals_by_value (λ ds. all_ascii_digits ds ≡ true) tells_all_ascii_digits

pub digits_all : (ds : List ℕ) → list_all is_ascii_digit ds ≡ all_ascii_digits ds
digits_all [] = refl
digits_all (d ∷ ds) = ap (λ b. is_ascii_digit d && b) (digits_all ds)

second : (x y : Bool) → (x && y) ≡ true → y ≡ true
second true y e = e
second false y e = absurd (false≢true e)

first : (x y : Bool) → (x && y) ≡ true → x ≡ true
first true y e = refl
first false y e = absurd (false≢true e)

both : (x y : Bool) → x ≡ true → y ≡ true → (x && y) ≡ true
both true y e f = f
both false y e f = absurd (false≢true e)

no_not : (b : Bool) → not b ≡ true → b ≡ false
no_not true e = absurd (false≢true e)
no_not false e = refl

pub decimal_digits : (ds : List ℕ) → is_decimal ds ≡ true → all_ascii_digits ds ≡ true
decimal_digits [] e = refl
decimal_digits (d ∷ []) e = both (is_ascii_digit d) true e refl
decimal_digits (d ∷ c ∷ ds) e = second (not (d == 48)) (all_ascii_digits (d ∷ c ∷ ds)) e

decimal_some : (ds : List ℕ) → is_decimal ds ≡ true → 0 < length ds
decimal_some [] e = absurd (false≢true e)
decimal_some (d ∷ ds) e = omega arith

decimal_first : (ds : List ℕ) → is_decimal ds ≡ true → get_or ds 0 0 ≡ 48 → length ds ≡ 1
decimal_first [] e lead = absurd (false≢true e)
decimal_first (d ∷ []) e lead = refl
decimal_first (d ∷ c ∷ ds) e lead = absurd (eqb-false d 48 (no_not (d == 48) (first (not (d == 48)) (all_ascii_digits (d ∷ c ∷ ds)) e)) lead)

is_decimal_from : (ds : List ℕ) → all_ascii_digits ds ≡ true → 0 < length ds → (get_or ds 0 0 ≡ 48 → length ds ≡ 1) → is_decimal ds ≡ true
is_decimal_from [] digits some lead = absurd (omega arith)
is_decimal_from (d ∷ []) digits some lead = first (is_ascii_digit d) true digits
is_decimal_from (d ∷ c ∷ ds) digits some lead =
    both (not (d == 48)) (all_ascii_digits (d ∷ c ∷ ds)) (ap not (ne_eqb d 48 (λ e. let long = lead e in absurd (omega arith)))) digits

-- the test of a state, and its parts
module _ (ds : List ℕ) where
  pub state_is : is_decimal ds ≡ true → digits_value 10 ds < 2 ^ 64 → state_of ds ≡ Some (digits_value 10 ds)
  state_is is small = ap (λ b. cond b (Some (digits_value 10 ds)) None) (both (is_decimal ds) (nat_lt (digits_value 10 ds) (2 ^ 64)) is (lt-ltb (digits_value 10 ds) (2 ^ 64) small))

  pub no_state : is_decimal ds ≡ false → state_of ds ≡ None
  no_state is_not = ap (λ b. cond (b && nat_lt (digits_value 10 ds) (2 ^ 64)) (Some (digits_value 10 ds)) None) is_not

  no_small_state : is_decimal ds ≡ true → (digits_value 10 ds < 2 ^ 64 → ⊥) → state_of ds ≡ None
  no_small_state is large =
      ap (λ b. cond (b && nat_lt (digits_value 10 ds) (2 ^ 64)) (Some (digits_value 10 ds)) None) is
      ∙ ap (λ b. cond b (Some (digits_value 10 ds)) None) (ge (nat_lt (digits_value 10 ds) (2 ^ 64)) refl)
    where
      ge : (b : Bool) → nat_lt (digits_value 10 ds) (2 ^ 64) ≡ b → nat_lt (digits_value 10 ds) (2 ^ 64) ≡ false
      ge true e = absurd (large (ltb-true (digits_value 10 ds) (2 ^ 64) e))
      ge false e = e

  -- what `parse` says of digits
  pub parsed : {E : Type 0} (r : Result ℕ E) → ParsesUnsigned 64 10 ds r → is_decimal ds ≡ true → MatchResult r (λ n. Some n ≡ state_of ds) (λ _. None ≡ state_of ds)
  parsed {E} r h is = by r (parse_digits own 64 ds r h (decimal_digits ds is))
    where
      by : (r : Result ℕ E) → OkIff r ((0 < length ds) × (digits_value 10 ds < 2 ^ 64)) (digits_value 10 ds) → MatchResult r (λ n. Some n ≡ state_of ds) (λ _. None ≡ state_of ds)
      by (Ok n) (p, e) = ap Some e ∙ sym (state_is is p.1)
      by (Err e) never = sym (no_small_state is (λ small. never (decimal_some ds is, small)))

-- a state is read again
pub state_again : (n : ℕ) → n < 2 ^ 64 → state_of (decimal n) ≡ Some n
state_again n small =
    let value : digits_value 10 (decimal n) ≡ n = digits_value-decimal own n small in
    state_is (decimal n)
    (is_decimal_from (decimal n) (digits_decimal own n small) (decimal_nonempty n small) (zero_alone n small))
    (subst (λ k. k < 2 ^ 64) (sym value) small)
    ∙ ap Some value
  where
    zero_alone : (n : ℕ) → n < 2 ^ 64 → get_or (decimal n) 0 0 ≡ 48 → length (decimal n) ≡ 1
    zero_alone n small e = elim (cases_lt 0 n) as (λ _. length (decimal n) ≡ 1) [
      | inl positive ↦ let above : 48 < get_or (decimal n) 0 0 = first_decimal n positive small in absurd (omega arith)
      | inr none ↦ ap length (decimal_digit n (omega arith))
    ]

-- and only its decimal is read as it
pub state_written : (field : List ℕ) (n : ℕ) → state_of field ≡ Some n → (n < 2 ^ 64) × (field ≡ decimal n)
state_written field n e = by (is_decimal field) refl (nat_lt (digits_value 10 field) (2 ^ 64)) refl
  where
    by : (b : Bool) → is_decimal field ≡ b → (c : Bool) → nat_lt (digits_value 10 field) (2 ^ 64) ≡ c → (n < 2 ^ 64) × (field ≡ decimal n)
    by true is true small =
        let below : digits_value 10 field < 2 ^ 64 = ltb-true (digits_value 10 field) (2 ^ 64) small in
        let found : Some (digits_value 10 field) ≡ Some n = sym (state_is field is below) ∙ e in
        let same : digits_value 10 field ≡ n = cc in (
          subst (λ k. k < 2 ^ 64) same below,
          sym (decimal-digits_value own field (decimal_digits field is) (decimal_some field is) (decimal_first field is) below) ∙ ap decimal same,
        )
    by true is false large =
        let clash : None ≡ Some n = sym (no_small_state field is (λ small. false≢true (sym large ∙ lt-ltb (digits_value 10 field) (2 ^ 64) small))) ∙ e in
        cc
    by false is c large = let clash : None ≡ Some n = sym (no_state field is) ∙ e in cc
