-- A number above the highest, as it is parsed.
use Rattle.std.proofs.Common.{◌≡◌, ℕ, ◌<◌, ◌^◌, true, false, nat_lt, Ok, Err, List, [], ◌∷◌, length, arith, rules}
use Rattle.std.specs.List.{list_all}
use Rattle.std.specs.Str.Parse.{ParsesUnsigned}
use Rattle.std.proofs.lemmas.Bool.Decides.{nat_tests}
use Rattle.std.proofs.lemmas.Str.Parse.{IsNumeralModel, numerals_by_fold, parse_digits}
use Rattle.regex_grammar.specs.Grammar.{is_digit, is_number, number_behind, number_of}
use Rattle.regex_reader.specs.Limits.{highest_power}

numerals : IsNumeralModel (λ ds. list_all is_digit ds ≡ true) (number_behind 0)
numerals = numerals_by_fold _ (search rules) number_behind (search rules)

only_digits : (digits : List ℕ) → is_number digits ≡ true → list_all is_digit digits ≡ true
only_digits [] e = cc
only_digits (c ∷ cs) e = e

one_at_least : (digits : List ℕ) → is_number digits ≡ true → 0 < length digits
one_at_least [] e = absurd cc
one_at_least (c ∷ cs) e = omega arith

below : (n : ℕ) → n < 2 ^ 8 → false ≡ nat_lt 255 n
below n h = grind (arith, nat_tests)

above : (n : ℕ) → (n < 2 ^ 8 → ⊥) → true ≡ nat_lt 255 n
above n h = let more : 255 < n = omega arith in grind (arith, nat_tests)

pub parsed_low : (digits : List ℕ) (n : ℕ) → is_number digits ≡ true → ParsesUnsigned {E = ℕ} 8 10 digits (Ok n) → false ≡ nat_lt highest_power (number_of digits)
parsed_low digits n is h = below (number_of digits) (parse_digits numerals {E = ℕ} 8 digits (Ok n) h (only_digits digits is)).0.1

-- what failed doesn't depend on the error
pub failed_high : (digits : List ℕ) → is_number digits ≡ true → ParsesUnsigned {E = ℕ} 8 10 digits (Err 0) → true ≡ nat_lt highest_power (number_of digits)
failed_high digits is h =
    let none = parse_digits numerals {E = ℕ} 8 digits (Err 0) h (only_digits digits is) in
    above (number_of digits) (λ less. none (one_at_least digits is, less))
