-- A row of a block, cell by cell.
use Rattle.std.proofs.Common.{◌≡◌, ◌≤◌, ◌++◌, ℕ, List, [], ◌∷◌, flat_map, length, take, refl, sym, ap, ◌∙◌, append_assoc}
use Rattle.std.proofs.lemmas.List.{take_all}
use Rattle.interlinear.specs.declared.columns.Cell.{Cell}
use Rattle.interlinear.specs.Blocks.{padded, row_of}

module _ (text : Cell → List ℕ) where
  -- each cell but the last is padded
  row_is : (front : List Cell) (last : Cell) → row_of text (front ++ last ∷ []) ≡ flat_map (padded text) front ++ text last
  row_is [] last = refl
  row_is (cell ∷ front) last = by front (row_is front last)
    where
      by : (front : List Cell) → row_of text (front ++ last ∷ []) ≡ flat_map (padded text) front ++ text last
          → row_of text (cell ∷ (front ++ last ∷ [])) ≡ flat_map (padded text) (cell ∷ front) ++ text last
      by [] later = sym (append_assoc (padded text cell) [] (text last))
      by (other ∷ front) later = ap (λ (z : List ℕ). padded text cell ++ z) later ∙ sym (append_assoc (padded text cell) (flat_map (padded text) (other ∷ front)) (text last))

  pub cells_put : (old done new part : List ℕ) (front : List Cell) (last : Cell) (cells : List Cell) (i : ℕ) → length front ≤ i → cells ≡ front ++ last ∷ [] → done ≡ old ++ flat_map (padded text) (take i front) → part ≡ text last → new ≡ done ++ part
      → new ≡ old ++ row_of text cells
  cells_put old done new part front last cells i all split done_is part_is new_is =
      new_is ∙ ap (λ (z : List ℕ). z ++ part) (done_is ∙ ap (λ (z : List Cell). old ++ flat_map (padded text) z) (take_all i front all))
      ∙ append_assoc old (flat_map (padded text) front) part
      ∙ ap (λ (z : List ℕ). old ++ (flat_map (padded text) front ++ z)) part_is
      ∙ ap (λ (z : List ℕ). old ++ z) (sym (ap (row_of text) split ∙ row_is front last))
