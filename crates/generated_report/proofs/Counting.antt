-- What is told of each word, counted.
use Rattle.std.proofs.Common.{◌≡◌, ◌+◌, ℕ, Bool, true, false, cond, List, [], ◌∷◌, length, map, refl, sym, ap, subst, ◌∙◌, arith}
use Rattle.std.specs.List.{AllZip, count_by, sum_by}
use Rattle.std.proofs.lemmas.List.Elements.{All-cons, All-nil}
use Rattle.std.proofs.lemmas.List.Sums.{sum_by-cons}
use Rattle.interlinear.specs.Blocks.{width_of}
use Rattle.interlinear.specs.Glosses.{Entry}
use Rattle.interlinear.specs.Replies.{AreCells, IsCell}
use Rattle.interlinear.specs.declared.columns.Cell.{Cell}
use Rattle.project_meaning.specs.Projects.{Project}
use Rattle.generated_report.specs.Counts.{AreCounts, HasCount, HasStrings, counted, is_same, nothing, passed}
use Rattle.generated_report.specs.Told.{IsTold}
use Rattle.generated_report.specs.declared.counts.Counts.{Counts}
use Rattle.generated_report.specs.declared.told.HowMany.{HowMany}
use Rattle.generated_report.specs.declared.told.HowMany.TheVariants.{None, One, Many}
use Rattle.generated_report.specs.declared.told.Told.{Told}
use Rattle.generated_report.proofs.Found.{one_number}

-- what the test of two kinds tells
pub same_told : (a b : HowMany) → is_same a b ≡ true → a ≡ b
same_told None None t = refl
same_told One One t = refl
same_told Many Many t = refl
same_told None One t = cc
same_told None Many t = cc
same_told One None t = cc
same_told One Many t = cc
same_told Many None t = cc
same_told Many One t = cc

same_itself : (a : HowMany) → is_same a a ≡ true
same_itself None = refl
same_itself One = refl
same_itself Many = refl

other_told : (a b : HowMany) → is_same a b ≡ false → a ≡ b → ⊥
other_told a b t same = let e : true ≡ false = sym (same_itself a) ∙ ap (is_same a) same ∙ t in cc

module _ (project : Project) (glosses : List Entry) (net : List ℕ) where
  abbrev AreTold : List (List ℕ) → List Told → Type 0
  AreTold words told = AllZip (IsTold project glosses net) words told

  as_many : (words : List (List ℕ)) (told : List Told) → AreTold words told → length told ≡ length words
  as_many [] [] h = refl
  as_many [] (t ∷ told) h = absurd h
  as_many (w ∷ words) [] h = absurd h
  as_many (w ∷ words) (t ∷ told) h = let rest = as_many words told h.1 in omega (arith, rest)

  -- the words of one kind
  module _ (many : HowMany) where
    abbrev Has : List ℕ → Type 0
    Has word = HasStrings project net word many

    abbrev is_such : Told → Bool
    is_such t = is_same t.many many

    one_more : (w : List ℕ) (words : List (List ℕ)) (t : Told) (n : ℕ) → HasStrings project net w t.many → HasCount Has words n → (b : Bool) → is_such t ≡ b → HasCount Has (w ∷ words) (cond b 1 0 + n)
    one_more w words t n here later true is = subst (HasCount Has (w ∷ words)) (omega arith) (counted (subst (HasStrings project net w) (same_told t.many many is) here) later)
    one_more w words t n here later false is = subst (HasCount Has (w ∷ words)) (omega arith) (passed (λ has. other_told t.many many is (one_number project net w t.many many here has)) later)

    counted_told : (words : List (List ℕ)) (told : List Told) → AreTold words told → HasCount Has words (count_by is_such told)
    counted_told [] [] h = nothing
    counted_told [] (t ∷ told) h = absurd h
    counted_told (w ∷ words) [] h = absurd h
    counted_told (w ∷ words) (t ∷ told) h =
        subst (HasCount Has (w ∷ words)) (sym (sum_by-cons (λ (x : Told). cond (is_such x) 1 0) t told))
        (one_more w words t (count_by is_such told) h.0.many (counted_told words told h.1) (is_such t) refl)

  -- their cells, and the columns of these
  abbrev HaveColumns : List (List ℕ) → List Told → Type 0
  HaveColumns words told = (cells : List Cell) × AreCells project glosses net words cells × (sum_by (λ (t : Told). t.columns) told ≡ sum_by (λ (c : Cell). width_of c.analysis) cells)

  cells_told : (words : List (List ℕ)) (told : List Told) → AreTold words told → HaveColumns words told
  cells_told [] [] h = ([], record { words_are = refl; each = All-nil (IsCell project glosses net) }, refl)
  cells_told [] (t ∷ told) h = absurd h
  cells_told (w ∷ words) [] h = absurd h
  cells_told (w ∷ words) (t ∷ told) (here, later) =
      let (cells, are, sums) = cells_told words told later in
      let columns = here.columns_are in
      let first = sum_by-cons (λ (x : Told). x.columns) t told in
      let second = sum_by-cons (λ (c : Cell). width_of c.analysis) here.cell cells in (
        here.cell ∷ cells,
        record {
          words_are = ap (λ (z : List ℕ). z ∷ map (λ (c : Cell). c.word) cells) here.word_is ∙ ap (λ (zs : List (List ℕ)). w ∷ zs) are.words_are;
          each = All-cons (IsCell project glosses net) here.cell cells here.cell_is are.each;
        },
        omega (arith, columns, first, second, sums),
      )

  -- the counts of all
  pub are_counts : (words : List (List ℕ)) (told : List Told) (counts : Counts) → AreTold words told → counts.names ≡ length project.definitions → counts.words ≡ length told
      → counts.one ≡ count_by (λ t. is_same t.many One) told → counts.many ≡ count_by (λ t. is_same t.many Many) told → counts.none ≡ count_by (λ t. is_same t.many None) told
      → counts.columns ≡ sum_by (λ t. t.columns) told → AreCounts project glosses net words counts
  are_counts words told counts h names number one many none columns =
      let (cells, are, sums) = cells_told words told h in
      record {
        names_are = names;
        words_are = number ∙ as_many words told h;
        one_is = subst (HasCount (λ word. HasStrings project net word One) words) (sym one) (counted_told One words told h);
        many_is = subst (HasCount (λ word. HasStrings project net word Many) words) (sym many) (counted_told Many words told h);
        none_is = subst (HasCount (λ word. HasStrings project net word None) words) (sym none) (counted_told None words told h);
        cells = cells;
        cells_are = are;
        columns_are = columns ∙ sums;
      }
