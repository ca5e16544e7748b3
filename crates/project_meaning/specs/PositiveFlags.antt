-- Flags without the negative ones. A feature is then neutral or has a value, and what flags do is the table of Beesley and Karttunen,
-- Finite State Morphology, 2003, chapter 7, with nothing added. A law says that the table for all flags agrees with it (Laws.antt);
-- nothing else uses it.
use Rattle.std.specs.Prelude.{◌≢◌, ℕ, Bool, true, not, ◌&&◌, ◌||◌, false, cond, List, [], ◌∷◌, All, Option, None, Some, is_some, is_none}
use Rattle.std.specs.Str.{bytes_eq}
use Rattle.regex_ast.specs.declared.lexc.FlagKind.{FlagKind}
use Rattle.regex_ast.specs.declared.lexc.FlagKind.TheVariants.{P, N, C, R, D, U}
use Rattle.project_meaning.specs.Trees.{Flag, Piece, letter, flag}

-- no flag of the list is negative
abbrev pub IsPositive : Piece (List ℕ) → Type 0
IsPositive (letter x) = Unit {0}
IsPositive (flag f) = f.kind ≢ N

abbrev pub ArePositive : List (Piece (List ℕ)) → Type 0
ArePositive pieces = All IsPositive pieces

-- the feature has this value; a neutral one has none
abbrev pub has : Option (List ℕ) → List ℕ → Bool
has None value = false
has (Some now) value = bytes_eq now value

-- whether a flag passes, and what its feature is then. No list that the law speaks of has an `N`
abbrev pub passes : Option (List ℕ) → FlagKind → Option (List ℕ) → Bool
passes now P value = true
passes now N value = false
passes now C value = true
passes now R None = is_some now
passes now R (Some value) = has now value
passes now D None = is_none now
passes now D (Some value) = not (has now value)
passes now U None = true
passes now U (Some value) = is_none now || has now value

abbrev pub value_behind : Option (List ℕ) → FlagKind → Option (List ℕ) → Option (List ℕ)
value_behind now P value = value
value_behind now N value = now
value_behind now C value = None
value_behind now R value = now
value_behind now D value = now
value_behind now U value = value

abbrev pub features_behind : (List ℕ → Option (List ℕ)) → Flag → List ℕ → Option (List ℕ)
features_behind features f other = cond (bytes_eq f.feature other) (value_behind (features other) f.kind f.value) (features other)

-- each flag of a side passes, from these features on
abbrev pub run_passes : (List ℕ → Option (List ℕ)) → List (Piece (List ℕ)) → Bool
run_passes features [] = true
run_passes features (letter x ∷ pieces) = run_passes features pieces
run_passes features (flag f ∷ pieces) = passes (features f.feature) f.kind f.value && run_passes (features_behind features f) pieces

abbrev pub flags_pass : List (Piece (List ℕ)) → Bool
flags_pass pieces = run_passes (λ feature. None) pieces
