-- Pieces written in marks.
use Rattle.std.proofs.Common.{◌≡◌, ℕ, List, [], ◌∷◌, ◌++◌, Option, Some, None, All, map, refl, ap, ◌∙◌}
use Rattle.std.specs.List.{Contains, flat_map}
use Rattle.std.specs.Option.{option_to_list}
use Rattle.std.proofs.lemmas.Grind.{flat_map-append}
use Rattle.std.proofs.lemmas.List.{append-nil}
use Rattle.std.proofs.lemmas.List.Elements.{All-nil, All-cons, All-head, All-tail, All-append, All-map, All-weaker}
use Rattle.fsm_base.specs.declared.letters.Sym.{Sym}
use Rattle.expr_meaning.specs.Replacement as pieces
use Rattle.expr_meaning.specs.Replacement.{Piece, copied, replaced}
use Rattle.replace_marks.specs.declared.marks.Mark.{Mark}
use Rattle.replace_marks.specs.declared.marks.Mark.TheVariants.{Copy, Up, Low, Open, Close}
use Rattle.replace_marks.specs.Marks.{upper_of, lower_of, uppers, lowers, IsMarkOf}
use Rattle.replace_marks.specs.Written.{marks_of_piece, written, bare, IsPieceOf, WrittenKeepsSides, WrittenIsOverMarks}

abbrev on_side : (Mark → Option Sym) → List Mark → List Sym
on_side side marks = flat_map (λ m. option_to_list (side m)) marks

-- what a side makes of a word's symbols, each in one mark
all_seen : (side : Mark → Option Sym) (f : Sym → Mark) → ((s : Sym) → side (f s) ≡ Some s) → (w : List Sym) → on_side side (map f w) ≡ w
all_seen side f seen [] = refl
all_seen side f seen (s ∷ w) = ap (λ o. option_to_list o ++ on_side side (map f w)) (seen s) ∙ ap (λ v. s ∷ v) (all_seen side f seen w)

none_seen : (side : Mark → Option Sym) (f : Sym → Mark) → ((s : Sym) → side (f s) ≡ None) → (w : List Sym) → on_side side (map f w) ≡ []
none_seen side f hidden [] = refl
none_seen side f hidden (s ∷ w) = ap (λ o. option_to_list o ++ on_side side (map f w)) (hidden s) ∙ none_seen side f hidden w

-- the parts of a replacement on a side that brackets are not on
in_brackets : (side : Mark → Option Sym) (number : ℕ) (centre result u v : List Sym)
    → side (Open number) ≡ None → side (Close number) ≡ None
    → on_side side (map (Up number) centre) ≡ u → on_side side (map (Low number) result) ≡ v
    → on_side side (marks_of_piece (number, replaced centre result)) ≡ u ++ v
in_brackets side number centre result u v opens closes first second =
    ap (λ o. option_to_list o ++ on_side side (ups ++ (lows ++ end))) opens
    ∙ flat_map-append of ups (lows ++ end)
    ∙ ap (λ w. on_side side ups ++ w) (flat_map-append of lows end ∙ ap (λ o. on_side side lows ++ (option_to_list o ++ [])) closes ∙ append-nil (on_side side lows))
    ∙ ap (λ w. w ++ on_side side lows) first
    ∙ ap (λ w. u ++ w) second
  where
    ups : List Mark
    ups = map (Up number) centre

    lows : List Mark
    lows = map (Low number) result

    end : List Mark
    end = Close number ∷ []

    of : Mark → List Sym
    of m = option_to_list (side m)

piece_upper : (number : ℕ) (piece : Piece Sym) → uppers (marks_of_piece (number, piece)) ≡ pieces.upper piece
piece_upper number (copied s) = refl
piece_upper number (replaced centre result) =
    in_brackets upper_of number centre result centre [] refl refl (all_seen upper_of (Up number) (λ s. refl) centre) (none_seen upper_of (Low number) (λ s. refl) result)
    ∙ append-nil centre

piece_lower : (number : ℕ) (piece : Piece Sym) → lowers (marks_of_piece (number, piece)) ≡ pieces.lower piece
piece_lower number (copied s) = refl
piece_lower number (replaced centre result) =
    in_brackets lower_of number centre result [] result refl refl (none_seen lower_of (Up number) (λ s. refl) centre) (all_seen lower_of (Low number) (λ s. refl) result)

pub written_keeps : WrittenKeepsSides
written_keeps numbered = (above numbered, below numbered)
  where
    above : (ps : List (ℕ × Piece Sym)) → uppers (written ps) ≡ pieces.uppers (bare ps)
    above [] = refl
    above (p ∷ ps) =
        flat_map-append (λ m. option_to_list (upper_of m)) (marks_of_piece p) (written ps)
        ∙ ap (λ w. w ++ uppers (written ps)) (piece_upper p.0 p.1)
        ∙ ap (λ w. pieces.upper p.1 ++ w) (above ps)

    below : (ps : List (ℕ × Piece Sym)) → lowers (written ps) ≡ pieces.lowers (bare ps)
    below [] = refl
    below (p ∷ ps) =
        flat_map-append (λ m. option_to_list (lower_of m)) (marks_of_piece p) (written ps)
        ∙ ap (λ w. w ++ lowers (written ps)) (piece_lower p.0 p.1)
        ∙ ap (λ w. pieces.lower p.1 ++ w) (below ps)

module _ (symbols : List Sym) (maps : ℕ) where
  abbrev IsOf : Mark → Type 0
  IsOf m = IsMarkOf symbols maps m

  piece_over : (number : ℕ) (piece : Piece Sym) → IsPieceOf symbols maps (number, piece) → All (IsMarkOf symbols maps) (marks_of_piece (number, piece))
  piece_over number (copied s) is = All-cons IsOf (Copy s) [] (All-head (Contains symbols) s [] is.1) (All-nil IsOf)
  piece_over number (replaced centre result) is =
      All-cons IsOf (Open number) (map (Up number) centre ++ (map (Low number) result ++ Close number ∷ [])) is.0
      (All-append IsOf (map (Up number) centre) (map (Low number) result ++ Close number ∷ [])
      (All-map IsOf (Up number) centre (All-weaker (Contains symbols) (λ s. IsOf (Up number s)) (λ s h. (is.0, h)) centre is.1))
      (All-append IsOf (map (Low number) result) (Close number ∷ [])
      (All-map IsOf (Low number) result (All-weaker (Contains symbols) (λ s. IsOf (Low number s)) (λ s h. (is.0, h)) result is.2))
      (All-cons IsOf (Close number) [] is.0 (All-nil IsOf))))

  written_over : (numbered : List (ℕ × Piece Sym)) → All (IsPieceOf symbols maps) numbered → All (IsMarkOf symbols maps) (written numbered)
  written_over [] over = All-nil IsOf
  written_over (p ∷ ps) over =
      All-append IsOf (marks_of_piece p) (written ps)
      (piece_over p.0 p.1 (All-head (IsPieceOf symbols maps) p ps over))
      (written_over ps (All-tail (IsPieceOf symbols maps) p ps over))

pub written_is_over : WrittenIsOverMarks
written_is_over symbols maps numbered over = written_over symbols maps numbered over
