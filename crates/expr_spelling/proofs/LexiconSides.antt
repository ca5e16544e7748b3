-- Sides with other letters: their flags pass alike, and without flags they are the words with those letters.
use Rattle.std.proofs.Common.{◌≡◌, ◌&&◌, ℕ, Bool, List, [], ◌∷◌, map, refl, ap}
use Rattle.std.specs.List.{flat_map}
use Rattle.std.specs.Str.{bytes_eq}
use Rattle.project_meaning.specs.Trees.{Piece, letter, flag}
use Rattle.project_meaning.specs.Settings.{Setting, passes}
use Rattle.project_meaning.specs.Lexicons.{piece_by, letters_of, features_behind, run_passes}

module _ {L M : Type 0} (f : L → M) where
  pub run_alike : (features : List ℕ → Setting (List ℕ)) (x : List (Piece L)) → run_passes features (map (piece_by f) x) ≡ run_passes features x
  run_alike features [] = refl
  run_alike features (letter l ∷ x) = run_alike features x
  run_alike features (flag g ∷ x) = ap (λ (b : Bool). passes bytes_eq (features g.feature) g.kind g.value && b) (run_alike (features_behind features g) x)

  pub letters_alike : (x : List (Piece L)) → flat_map letters_of (map (piece_by f) x) ≡ map f (flat_map letters_of x)
  letters_alike [] = refl
  letters_alike (letter l ∷ x) = ap (λ (u : List M). f l ∷ u) (letters_alike x)
  letters_alike (flag g ∷ x) = letters_alike x

  -- a side of letters alone
  pub letters_by : (u : List L) → map (piece_by f) (map letter u) ≡ map letter (map f u)
  letters_by [] = refl
  letters_by (l ∷ u) = ap (λ (x : List (Piece M)). letter (f l) ∷ x) (letters_by u)

pub letters_alone : {L : Type 0} (u : List L) → flat_map letters_of (map letter u) ≡ u
letters_alone [] = refl
letters_alone (l ∷ u) = ap (λ (w : List _). l ∷ w) (letters_alone u)
