-- Rows that are made item by item.
use Rattle.std.proofs.Common.{◌≡◌, ◌+◌, ◌<◌, ◌≤◌, ℕ, List, [], ◌∷◌, ◌++◌, Some, length, map, take, get_or, sym, ap, ◌∙◌}
use Rattle.std.proofs.lemmas.List.{map-append, take_all}
use Rattle.std.proofs.lemmas.Option.{slice_get-get_or}
use Rattle.std.proofs.lemmas.Simd.{map-map}
use Rattle.word_relations.proofs.Places.{take_more-slice_get}

-- each item made, seen as Z, is what an item of the row is to become
module _ {X Y Z : Type 0} (view : Y → Z) (aim : X → Z) (xs : List X) (i : ℕ) (found : List Y) where
  pub row_more : (x : X) (new : List Y) (y : Y) → i < length xs → x ≡ get_or xs i x → new ≡ found ++ y ∷ [] → view y ≡ aim x
      → map view found ≡ map aim (take i xs) → map view new ≡ map aim (take (i + 1) xs)
  row_more x new y below is new_is same so_far =
      let next : take (i + 1) xs ≡ take i xs ++ x ∷ [] = take_more-slice_get xs i x (slice_get-get_or xs i x below ∙ ap (λ (z : X). Some z) (sym is)) in
      ap (map view) new_is ∙ map-append view found (y ∷ [])
      ∙ ap (λ (zs : List Z). zs ++ view y ∷ []) so_far ∙ ap (λ (z : Z). map aim (take i xs) ++ z ∷ []) same
      ∙ sym (map-append aim (take i xs) (x ∷ [])) ∙ sym (ap (map aim) next)

  pub row_ended : length xs ≤ i → map view found ≡ map aim (take i xs) → map view found ≡ map aim xs
  row_ended over so_far = so_far ∙ ap (map aim) (take_all i xs over)

-- the same where an item is seen as W first
pub twice_ended : {X Y Z W : Type 0} (view : Y → Z) (first : X → W) (then : W → Z) (xs : List X) (i : ℕ) (found : List Y) → length xs ≤ i
    → map view found ≡ map (λ x. then (first x)) (take i xs) → map view found ≡ map then (map first xs)
twice_ended view first then xs i found over so_far = row_ended view (λ x. then (first x)) xs i found over so_far ∙ sym (map-map then first xs)
