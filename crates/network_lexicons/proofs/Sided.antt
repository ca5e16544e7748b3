-- The sides of a tape, as it is made of two sides letter by letter.
use Rattle.std.proofs.Common.{◌≡◌, ℕ, zero, suc, List, [], ◌∷◌, ◌++◌, take, drop, refl, ap, append_assoc, ◌∙◌}
use Rattle.std.specs.List.{flat_map}
use Rattle.std.proofs.lemmas.List.{append-nil}
use Rattle.std.proofs.lemmas.List.Concat.{flat_map-append}
use Rattle.fsm_base.specs.declared.letters.Sym.{Sym}
use Rattle.regex_ast.specs.declared.expr.Atom.{Atom}
use Rattle.regex_ast.specs.declared.lexc.FlagOp.{FlagOp}
use Rattle.regex_ast.specs.declared.lexc.Piece.{Piece as PieceOf}
use Rattle.project_meaning.specs.Trees.{Piece}
use Rattle.project_meaning.specs.Lexicons.{piece_by}
use Rattle.flag_diacritics.specs.Numbers.{Keeps}
use Rattle.flag_diacritics.specs.declared.tape.Tape.{Tape}
use Rattle.network_lexicons.specs.Plain.{piece_of, symbol_in}
use Rattle.network_lexicons.specs.Sides.{upper_pieces, lower_pieces, upper_side, lower_side, side_of, IsFirst}
use Rattle.network_lexicons.specs.declared.tapes.First.{First}

-- lists that grow
pub keeps_more : {X : Type 0} (a b c : List X) → Keeps a b → Keeps b c → Keeps a c
keeps_more a b c f g k x at = g k x (f k x at)

-- one letter more
side_more : (f : Tape → List (Piece Sym)) (tape : List Tape) (x : Tape) (rest : List (Piece Sym)) → flat_map f (tape ++ x ∷ []) ++ rest ≡ flat_map f tape ++ (f x ++ rest)
side_more f tape x rest =
    ap (λ s. s ++ rest) (flat_map-append f tape (x ∷ [])) ∙ append_assoc (flat_map f tape) (f x ++ []) rest ∙ ap (λ s. flat_map f tape ++ (s ++ rest)) (append-nil (f x))

side_split : (n : ℕ) (side : List (PieceOf Atom)) → side_of (take n side) ++ side_of (drop n side) ≡ side_of side
side_split zero side = refl
side_split (suc n) [] = refl
side_split (suc n) (p ∷ side) = ap (λ (s : List (Piece Sym)). piece_by symbol_in (piece_of p) ∷ s) (side_split n side)

-- the tape has what stands in front of the rest of two sides
pub record HasFronts (flags : List FlagOp) (upper lower above below : List (PieceOf Atom)) (tape : List Tape) : Type 0 where
  pub upper_is : (all : List FlagOp) → Keeps flags all → upper_side all tape ++ side_of above ≡ side_of upper
  pub lower_is : (all : List FlagOp) → Keeps flags all → lower_side all tape ++ side_of below ≡ side_of lower

pub fronts_more : (flags more : List FlagOp) (upper lower above below : List (PieceOf Atom)) (tape new : List Tape) (first : First)
    → Keeps flags more → IsFirst more above below first → new ≡ tape ++ first.letter ∷ [] → HasFronts flags upper lower above below tape → HasFronts more upper lower (drop first.upper above) (drop first.lower below) new
fronts_more flags more upper lower above below tape new first keeps is pushed before = record {
  upper_is = λ all kept.
      let rest = side_of (drop first.upper above) in
      ap (λ (t : List Tape). upper_side all t ++ rest) pushed ∙ side_more (upper_pieces all) tape first.letter rest
      ∙ ap (λ (s : List (Piece Sym)). upper_side all tape ++ (s ++ rest)) (is.upper_is all kept)
      ∙ ap (λ (s : List (Piece Sym)). upper_side all tape ++ s) (side_split first.upper above)
      ∙ before.upper_is all (keeps_more flags more all keeps kept);
  lower_is = λ all kept.
      let rest = side_of (drop first.lower below) in
      ap (λ (t : List Tape). lower_side all t ++ rest) pushed ∙ side_more (lower_pieces all) tape first.letter rest
      ∙ ap (λ (s : List (Piece Sym)). lower_side all tape ++ (s ++ rest)) (is.lower_is all kept)
      ∙ ap (λ (s : List (Piece Sym)). lower_side all tape ++ s) (side_split first.lower below)
      ∙ before.lower_is all (keeps_more flags more all keeps kept);
}
