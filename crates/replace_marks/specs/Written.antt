-- Pieces of a replacement (expr_meaning, specs/Replacement.antt) written in marks, and what this keeps.
use Rattle.std.specs.Prelude.{◌≡◌, ℕ, ◌<◌, List, [], ◌∷◌, ◌++◌, map, All}
use Rattle.std.specs.List.{flat_map}
use Rattle.fsm_base.specs.declared.letters.Sym.{Sym}
use Rattle.word_relations.specs.Words.{IsOver}
use Rattle.expr_meaning.specs.Replacement as pieces
use Rattle.expr_meaning.specs.Replacement.{Piece, copied, replaced}
use Rattle.replace_marks.specs.declared.marks.Mark.{Mark}
use Rattle.replace_marks.specs.declared.marks.Mark.TheVariants.{Copy, Up, Low, Open, Close}
use Rattle.replace_marks.specs.Marks.{uppers, lowers, IsMarkOf}

-- the marks of a piece, which is by the mapping of the number where it is a replacement
abbrev pub marks_of_piece : ℕ × Piece Sym → List Mark
marks_of_piece (number, copied symbol) = Copy symbol ∷ []
marks_of_piece (number, replaced centre result) = Open number ∷ (map (Up number) centre ++ (map (Low number) result ++ Close number ∷ []))

-- the word of marks of numbered pieces
abbrev pub written : List (ℕ × Piece Sym) → List Mark
written numbered = flat_map marks_of_piece numbered

-- the pieces without their numbers
abbrev pub bare : List (ℕ × Piece Sym) → List (Piece Sym)
bare numbered = map (λ p. p.1) numbered

-- the two sides of the marks are the two words of the pieces
abbrev pub WrittenKeepsSides : Type 0
WrittenKeepsSides = (numbered : List (ℕ × Piece Sym)) → (uppers (written numbered) ≡ pieces.uppers (bare numbered)) × (lowers (written numbered) ≡ pieces.lowers (bare numbered))

-- the piece's number is below the bound, and its words are over the symbols
abbrev pub IsPieceOf : List Sym → ℕ → ℕ × Piece Sym → Type 0
IsPieceOf symbols maps (number, piece) = (number < maps) × IsOver symbols (pieces.upper piece) × IsOver symbols (pieces.lower piece)

-- pieces of these symbols and so many mappings are written in their marks
abbrev pub WrittenIsOverMarks : Type 0
WrittenIsOverMarks = (symbols : List Sym) (maps : ℕ) (numbered : List (ℕ × Piece Sym)) → All (IsPieceOf symbols maps) numbered → All (IsMarkOf symbols maps) (written numbered)
