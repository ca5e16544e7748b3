-- Runs of flags, joined and cut. Nothing here depends on what a feature may be.
use Rattle.std.proofs.Common.{◌≡◌, ℕ, ◌↔◌, ◌⊎◌, ◌&&◌, Bool, true, false, cond, List, [], ◌∷◌, ◌++◌, refl, sym, ap, subst, inl, inr, ◌∙◌}
use Rattle.std.specs.Prelude.{IsTrue}
use Rattle.std.proofs.lemmas.Bool.{and_parts, and_from}
use Rattle.project_meaning.specs.Trees.{Piece, letter, flag}
use Rattle.project_meaning.specs.Settings.{Setting, passes}
use Rattle.project_meaning.specs.Lexicons.{features_behind, run_passes, flags_pass}
use Rattle.std.specs.Str.{bytes_eq}

-- what each feature is
abbrev pub Features : Type 0
Features = List ℕ → Setting (List ℕ)

-- what the features are behind a run
abbrev pub behind_run : {L : Type 0} → Features → List (Piece L) → Features
behind_run features [] = features
behind_run features (letter x ∷ pieces) = behind_run features pieces
behind_run features (flag f ∷ pieces) = behind_run (features_behind features f) pieces

module _ {L : Type 0} where
  -- a front of a run that passes, passes
  pub run_front : (features : Features) (front rest : List (Piece L)) → IsTrue (run_passes features (front ++ rest)) → IsTrue (run_passes features front)
  run_front features [] rest h = refl
  run_front features (letter x ∷ front) rest h = run_front features front rest h
  run_front features (flag f ∷ front) rest h =
      let parts = and_parts (passes bytes_eq (features f.feature) f.kind f.value) (run_passes (features_behind features f) (front ++ rest)) h in
      and_from (passes bytes_eq (features f.feature) f.kind f.value) (run_passes (features_behind features f) front) parts.0 (run_front (features_behind features f) front rest parts.1)

  -- what is left of it passes from the features behind the front
  pub run_rest : (features : Features) (front rest : List (Piece L)) → IsTrue (run_passes features (front ++ rest)) → IsTrue (run_passes (behind_run features front) rest)
  run_rest features [] rest h = h
  run_rest features (letter x ∷ front) rest h = run_rest features front rest h
  run_rest features (flag f ∷ front) rest h =
      let parts = and_parts (passes bytes_eq (features f.feature) f.kind f.value) (run_passes (features_behind features f) (front ++ rest)) h in
      run_rest (features_behind features f) front rest parts.1

  -- two runs joined pass where both do, the second from the features behind the first
  pub run_joined : (features : Features) (front rest : List (Piece L)) → IsTrue (run_passes features front) → IsTrue (run_passes (behind_run features front) rest) → IsTrue (run_passes features (front ++ rest))
  run_joined features [] rest p q = q
  run_joined features (letter x ∷ front) rest p q = run_joined features front rest p q
  run_joined features (flag f ∷ front) rest p q =
      let parts = and_parts (passes bytes_eq (features f.feature) f.kind f.value) (run_passes (features_behind features f) front) p in
      and_from (passes bytes_eq (features f.feature) f.kind f.value) (run_passes (features_behind features f) (front ++ rest)) parts.0 (run_joined (features_behind features f) front rest parts.1 q)

  pub behind-append : (features : Features) (front rest : List (Piece L)) → behind_run features (front ++ rest) ≡ behind_run (behind_run features front) rest
  behind-append features [] rest = refl
  behind-append features (letter x ∷ front) rest = behind-append features front rest
  behind-append features (flag f ∷ front) rest = behind-append (features_behind features f) front rest
