-- Texts of a table by their numbers.
use Rattle.std.proofs.Common.{◌≡◌, ℕ, ◌<◌, ◌==◌, Bool, true, false, List, length, Some, refl, sym, ap, ◌∙◌, slice_get, arith, Contains, true≢false}
use Rattle.std.proofs.lemmas.Bool.Decides.{nat_tests}
use Rattle.std.proofs.lemmas.Option.{slice_get_within, same_Some}
use Rattle.std.proofs.lemmas.Slice.Eq.{bytes_eq-Decides}
use Rattle.std.specs.Str.{bytes_eq}
use Rattle.fsm_base.specs.Symbols.{number_of}
use Rattle.name_resolution.proofs.Texts.{any_from_has, number_held}

-- a text that a table has stands there under its number
pub at_number : (table : List (List ℕ)) (text : List ℕ) → Contains table text → slice_get table (number_of text table) ≡ Some text
at_number table text among = number_held text table (any_from_has text table among)

pub number_within : (table : List (List ℕ)) (text : List ℕ) → Contains table text → number_of text table < length table
number_within table text among = slice_get_within table (number_of text table) text (at_number table text among)

-- two texts of a table with the same number are the same
pub same_text : (table : List (List ℕ)) (text other : List ℕ) → Contains table text → Contains table other → number_of text table ≡ number_of other table
    → text ≡ other
same_text table text other among is_among same =
    same_Some text other (sym (at_number table text among) ∙ ap (slice_get table) same ∙ at_number table other is_among)

number_same : (n m : ℕ) → n ≡ m → (n == m) ≡ true
number_same n m e = grind (arith, nat_tests)

same_number : (n m : ℕ) → (n == m) ≡ true → n ≡ m
same_number n m e = grind (arith, nat_tests)

-- texts of a table have one number where they are one
pub texts_same : (table : List (List ℕ)) (s t : List ℕ) → Contains table s → Contains table t → (number_of s table == number_of t table) ≡ bytes_eq s t
texts_same table s t a b = by (bytes_eq s t) refl (number_of s table == number_of t table) refl
  where
    by : (p : Bool) → bytes_eq s t ≡ p → (q : Bool) → (number_of s table == number_of t table) ≡ q → (number_of s table == number_of t table) ≡ bytes_eq s t
    by true e true d = d ∙ sym e
    by false e false d = d ∙ sym e
    by true e false d =
        let is : s ≡ t = (bytes_eq-Decides s t).0 e in
        absurd (true≢false (sym (number_same (number_of s table) (number_of t table) (ap (λ (z : List ℕ). number_of z table) is)) ∙ d))
    by false e true d =
        let is : s ≡ t = same_text table s t a b (same_number (number_of s table) (number_of t table) d) in
        absurd (true≢false (sym ((bytes_eq-Decides s t).1 is) ∙ e))
