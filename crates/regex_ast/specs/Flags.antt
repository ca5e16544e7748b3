-- Flag diacritics: texts `@X.F.V@` and `@X.F@` (Beesley and Karttunen, Finite State Morphology, 2003,
-- chapter 7). A text is the list of its bytes in UTF-8.
use Rattle.std.specs.Prelude.{◌≡◌, ◌≢◌, ◌<◌, ◌++◌, ℕ, List, [], ◌∷◌, length, All}

-- a byte of a feature or of a value: no blank, no `.`, no `@`
abbrev pub IsFeatureByte : ℕ → Type 0
IsFeatureByte b = (b ≢ 9) × (b ≢ 10) × (b ≢ 32) × (b ≢ 46) × (b ≢ 64)

abbrev pub IsFeature : List ℕ → Type 0
IsFeature feature = (0 < length feature) × All IsFeatureByte feature

-- the kinds of flag, by their letters `P`, `N`, `U`, `R`, `D`, which may have a value
pub data HasValue : ℕ → Type 0 where
  sets : HasValue 80
  negates : HasValue 78
  unifies : HasValue 85
  requires_value : HasValue 82
  bars_value : HasValue 68

-- `C`, `R`, `D`, which may have none
pub data HasNoValue : ℕ → Type 0 where
  clears : HasNoValue 67
  requires_any : HasNoValue 82
  bars_any : HasNoValue 68

-- `@X.F.V@` or `@X.F@`
pub data IsFlag (text : List ℕ) : Type 0 where
  valued : (kind : ℕ) (feature value : List ℕ) → HasValue kind → IsFeature feature → IsFeature value → text ≡ 64 ∷ kind ∷ 46 ∷ feature ++ 46 ∷ value ++ 64 ∷ [] → IsFlag text
  plain : (kind : ℕ) (feature : List ℕ) → HasNoValue kind → IsFeature feature → text ≡ 64 ∷ kind ∷ 46 ∷ feature ++ 64 ∷ [] → IsFlag text
