-- Histories: values that were published, in order, and then that nothing more is published.
use Rattle.std.specs.Prelude.{◌≡◌, ℕ, ◌+◌, List, [], ◌∷◌, map}
use Rattle.publish_board.specs.declared.law.Entry.{Entry}
use Rattle.publish_board.specs.declared.law.Entry.TheVariants.{Value, Closed}

-- the values have the numbers from n on
abbrev pub IsNumberedFrom : {X : Type 0} → (X → ℕ) → ℕ → List X → Type 0
IsNumberedFrom number n [] = Unit {0}
IsNumberedFrom number n (x ∷ xs) = (number x ≡ n) × IsNumberedFrom number (n + 1) xs

-- the first value has the number 1, the second 2, and so on
abbrev pub IsNumbered : {X : Type 0} → (X → ℕ) → List X → Type 0
IsNumbered number xs = IsNumberedFrom number 1 xs

-- the values have the numbers from n on, and nothing follows the close
abbrev pub IsLegalFrom : {X : Type 0} → (X → ℕ) → ℕ → List (Entry X) → Type 0
IsLegalFrom number n [] = Unit {0}
IsLegalFrom {X} number n (e ∷ log) = elim e as (λ _. Type 0) [ Value x ↦ (number x ≡ n) × IsLegalFrom number (n + 1) log | Closed ↦ log ≡ [] ]

abbrev pub IsLegal : {X : Type 0} → (X → ℕ) → List (Entry X) → Type 0
IsLegal number log = IsLegalFrom number 1 log

-- the history in which these values are published, and which isn't closed
abbrev pub entries : {X : Type 0} → List X → List (Entry X)
entries xs = map Value xs

-- the values before the close
abbrev pub values_of : {X : Type 0} → List (Entry X) → List X
values_of [] = []
values_of (e ∷ log) = elim e [ Value x ↦ x ∷ values_of log | Closed ↦ [] ]
