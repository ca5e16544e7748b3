-- What flag diacritics ask of a feature and make of it (Beesley and Karttunen, Finite State Morphology, 2003, chapter 7). The rows on
-- features that are barred from a value are this project's own. It is one table for values of any kind, as texts or numbers:
--
-- | flag      | passes where the feature                                          | then the feature |
-- |-----------|-------------------------------------------------------------------|------------------|
-- | `@P.F.V@` | is anything                                                       | has V            |
-- | `@N.F.V@` | is anything                                                       | is barred from V |
-- | `@C.F@`   | is anything                                                       | is neutral       |
-- | `@R.F.V@` | has V                                                             | is as before     |
-- | `@R.F@`   | isn't neutral                                                     | is as before     |
-- | `@D.F.V@` | is neutral, has a value other than V, or is barred from any value | is as before     |
-- | `@D.F@`   | is neutral                                                        | is as before     |
-- | `@U.F.V@` | is neutral, has V, or is barred from a value other than V         | has V            |
use Rattle.std.specs.Prelude.{Bool, true, false, not, Option, None, Some}
use Rattle.regex_ast.specs.declared.lexc.FlagKind.{FlagKind}
use Rattle.regex_ast.specs.declared.lexc.FlagKind.TheVariants.{P, N, C, R, D, U}

-- a feature is neutral, has a value, or is barred from a value
pub data Setting (V : Type 0) : Type 0 where
  neutral : Setting V
  has : V → Setting V
  barred : V → Setting V

abbrev pub is_neutral : {V : Type 0} → Setting V → Bool
is_neutral neutral = true
is_neutral (has value) = false
is_neutral (barred value) = false

-- Values are told apart by `same`.

-- the feature has the value
abbrev pub has_value : {V : Type 0} → (V → V → Bool) → Setting V → V → Bool
has_value same neutral value = false
has_value same (has now) value = same now value
has_value same (barred now) value = false

-- nothing keeps the feature from having the value
abbrev pub may_have : {V : Type 0} → (V → V → Bool) → Setting V → V → Bool
may_have same neutral value = true
may_have same (has now) value = same now value
may_have same (barred now) value = not (same now value)

-- whether a flag of a kind, with its value if it has one, passes where its feature is this; and what the feature is then. `P`, `N` and `U`
-- have a value in each flag that is read
abbrev pub passes : {V : Type 0} → (V → V → Bool) → Setting V → FlagKind → Option V → Bool
passes same now P value = true
passes same now N value = true
passes same now C value = true
passes same now R None = not (is_neutral now)
passes same now R (Some value) = has_value same now value
passes same now D None = is_neutral now
passes same now D (Some value) = not (has_value same now value)
passes same now U None = true
passes same now U (Some value) = may_have same now value

abbrev pub setting_behind : {V : Type 0} → Setting V → FlagKind → Option V → Setting V
setting_behind now P None = neutral
setting_behind now P (Some value) = has value
setting_behind now N None = neutral
setting_behind now N (Some value) = barred value
setting_behind now C value = neutral
setting_behind now R value = now
setting_behind now D value = now
setting_behind now U None = neutral
setting_behind now U (Some value) = has value
