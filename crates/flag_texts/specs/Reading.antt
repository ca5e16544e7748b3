-- Which flag diacritic a text is: `@X.F.V@` or `@X.F@` (Beesley and Karttunen, Finite State Morphology, 2003, chapter 7), where X is
-- the kind's letter, F the feature and V the value. A text is the list of its bytes in UTF-8.
use Rattle.std.specs.Prelude.{◌≡◌, ◌≢◌, ◌++◌, ℕ, List, [], ◌∷◌, All, Option, None, Some}
use Rattle.regex_ast.specs.Flags.{IsFeature, HasValue, HasNoValue}
use Rattle.regex_ast.specs.declared.lexc.FlagKind.{FlagKind}
use Rattle.regex_ast.specs.declared.lexc.FlagKind.TheVariants.{P, N, C, R, D, U}
use Rattle.regex_ast.specs.declared.lexc.FlagOp.{FlagOp}

-- the letter of a kind
abbrev pub letter_of : FlagKind → ℕ
letter_of P = 80
letter_of N = 78
letter_of C = 67
letter_of R = 82
letter_of D = 68
letter_of U = 85

-- what stands behind the feature
abbrev pub ending_of : Option (List ℕ) → List ℕ
ending_of None = 64 ∷ []
ending_of (Some value) = 46 ∷ value ++ 64 ∷ []

-- a kind has a value, or has none
abbrev pub MayHave : FlagKind → Option (List ℕ) → Type 0
MayHave kind None = HasNoValue (letter_of kind)
MayHave kind (Some value) = HasValue (letter_of kind) × IsFeature value

-- the text is this flag
pub record IsFlagOf (text : List ℕ) (flag : FlagOp) : Type 0 where
  pub feature : IsFeature flag.feature
  pub value : MayHave flag.kind flag.value
  pub spelled : text ≡ 64 ∷ letter_of flag.kind ∷ 46 ∷ flag.feature ++ ending_of flag.value

-- a text without this byte
abbrev pub HasNo : ℕ → List ℕ → Type 0
HasNo byte text = All (λ b. b ≢ byte) text
