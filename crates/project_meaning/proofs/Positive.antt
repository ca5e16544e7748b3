-- Without negative flags the table for all flags says what the one without them says.
use Rattle.std.proofs.Common.{◌≡◌, ◌≢◌, ◌&&◌, ℕ, Bool, true, false, cond, List, [], ◌∷◌, Option, None, Some, refl, ap, ◌∙◌}
use Rattle.std.proofs.lemmas.List.Elements.{All-head, All-tail}
use Rattle.std.specs.Str.{bytes_eq}
use Rattle.regex_ast.specs.declared.lexc.FlagKind.{FlagKind}
use Rattle.regex_ast.specs.declared.lexc.FlagKind.TheVariants.{P, N, C, R, D, U}
use Rattle.project_meaning.specs.Trees.{Flag, Piece, letter, flag}
use Rattle.project_meaning.specs.Settings.{Setting, neutral, has, passes, setting_behind}
use Rattle.project_meaning.specs.Lexicons.{run_passes, features_behind, flags_pass}
use Rattle.project_meaning.specs.PositiveFlags.{IsPositive, ArePositive}
use Rattle.project_meaning.specs.PositiveFlags as positive

-- a feature that isn't barred
abbrev setting_of : Option (List ℕ) → Setting (List ℕ)
setting_of None = neutral
setting_of (Some value) = has value

same_test : (now : Option (List ℕ)) (kind : FlagKind) (value : Option (List ℕ)) → kind ≢ N → passes bytes_eq (setting_of now) kind value ≡ positive.passes now kind value
same_test now P value other = refl
same_test now N value other = absurd (other refl)
same_test now C value other = refl
same_test None R None other = refl
same_test (Some v) R None other = refl
same_test None R (Some w) other = refl
same_test (Some v) R (Some w) other = refl
same_test None D None other = refl
same_test (Some v) D None other = refl
same_test None D (Some w) other = refl
same_test (Some v) D (Some w) other = refl
same_test now U None other = refl
same_test None U (Some w) other = refl
same_test (Some v) U (Some w) other = refl

same_behind : (now : Option (List ℕ)) (kind : FlagKind) (value : Option (List ℕ)) → kind ≢ N → setting_behind (setting_of now) kind value ≡ setting_of (positive.value_behind now kind value)
same_behind now P None other = refl
same_behind now P (Some w) other = refl
same_behind now N value other = absurd (other refl)
same_behind now C value other = refl
same_behind now R value other = refl
same_behind now D value other = refl
same_behind now U None other = refl
same_behind now U (Some w) other = refl

cond_of : (b : Bool) (x y : Option (List ℕ)) (z : Setting (List ℕ)) → z ≡ setting_of x → cond b z (setting_of y) ≡ setting_of (cond b x y)
cond_of true x y z is = is
cond_of false x y z is = refl

same_features : (features : List ℕ → Option (List ℕ)) (f : Flag) → f.kind ≢ N → features_behind (λ name. setting_of (features name)) f ≡ (λ name. setting_of (positive.features_behind features f name))
same_features features f other =
    λ i name. cond_of (bytes_eq f.feature name) (positive.value_behind (features name) f.kind f.value) (features name) (setting_behind (setting_of (features name)) f.kind f.value) (same_behind (features name) f.kind f.value other) i

same_run : (pieces : List (Piece (List ℕ))) → ArePositive pieces → (features : List ℕ → Option (List ℕ)) → run_passes (λ name. setting_of (features name)) pieces ≡ positive.run_passes features pieces
same_run [] are features = refl
same_run (letter x ∷ pieces) are features = same_run pieces (All-tail IsPositive (letter x) pieces are) features
same_run (flag f ∷ pieces) are features =
    let other : f.kind ≢ N = All-head IsPositive (flag f) pieces are in
    ap (λ (b : Bool). b && run_passes (features_behind (λ name. setting_of (features name)) f) pieces) (same_test (features f.feature) f.kind f.value other)
    ∙ ap (λ (b : Bool). positive.passes (features f.feature) f.kind f.value && b)
    (ap (λ (now : List ℕ → Setting (List ℕ)). run_passes now pieces) (same_features features f other) ∙ same_run pieces (All-tail IsPositive (flag f) pieces are) (positive.features_behind features f))

pub positive_flags_as_before : (pieces : List (Piece (List ℕ))) → ArePositive pieces → flags_pass pieces ≡ positive.flags_pass pieces
positive_flags_as_before pieces are = same_run pieces are (λ name. None)
