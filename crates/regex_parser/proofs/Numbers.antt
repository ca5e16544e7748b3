-- The number of a power, as it is parsed.
use Rattle.std.proofs.Common.{◌≡◌, ℕ, ◌<◌, ◌^◌, min, true, Ok, Err, List, [], ◌∷◌, length, ◌∙◌, arith, rules}
use Rattle.std.specs.List.{list_all}
use Rattle.std.specs.Str.Parse.{ParsesUnsigned}
use Rattle.std.proofs.lemmas.Str.Parse.{IsNumeralModel, numerals_by_fold, parse_digits}
use Rattle.regex_grammar.specs.Grammar.{is_digit, is_number, number_behind, number_of, power_value}

numerals : IsNumeralModel (λ ds. list_all is_digit ds ≡ true) (number_behind 0)
numerals = numerals_by_fold _ (search rules) number_behind (search rules)

only_digits : (digits : List ℕ) → is_number digits ≡ true → list_all is_digit digits ≡ true
only_digits [] e = cc
only_digits (c ∷ cs) e = e

one_at_least : (digits : List ℕ) → is_number digits ≡ true → 0 < length digits
one_at_least [] e = absurd cc
one_at_least (c ∷ cs) e = omega arith

small : (n : ℕ) → n < 2 ^ 8 → n ≡ min n 256
small n h = omega arith

large : (n : ℕ) → (n < 2 ^ 8 → ⊥) → 256 ≡ min n 256
large n h = omega arith

pub parsed_power : (digits : List ℕ) (n : ℕ) → is_number digits ≡ true → ParsesUnsigned {E = ℕ} 8 10 digits (Ok n) → n ≡ power_value digits
parsed_power digits n is h =
    let read = parse_digits numerals {E = ℕ} 8 digits (Ok n) h (only_digits digits is) in
    read.1 ∙ small (number_of digits) read.0.1

-- what failed doesn't depend on the error
pub failed_power : (digits : List ℕ) → is_number digits ≡ true → ParsesUnsigned {E = ℕ} 8 10 digits (Err 0) → 256 ≡ power_value digits
failed_power digits is h =
    let none = parse_digits numerals {E = ℕ} 8 digits (Err 0) h (only_digits digits is) in
    large (number_of digits) (λ less. none (one_at_least digits is, less))
