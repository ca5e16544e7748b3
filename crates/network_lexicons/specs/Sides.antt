-- The two sides of a tape, as pieces. A flag is named by its place in a list, and where further flags come behind these a tape has
-- the same sides.
use Rattle.std.specs.Prelude.{◌≡◌, ◌<◌, ◌≤◌, ◌+◌, ℕ, List, [], ◌∷◌, Option, None, Some, length, map, take, slice_get}
use Rattle.std.specs.List.{flat_map}
use Rattle.std.specs.Option.{option_to_list}
use Rattle.fsm_base.specs.declared.letters.Sym.{Sym}
use Rattle.regex_ast.specs.declared.expr.Atom.{Atom}
use Rattle.regex_ast.specs.declared.lexc.FlagOp.{FlagOp}
use Rattle.regex_ast.specs.declared.lexc.Piece.{Piece as PieceOf}
use Rattle.regex_ast.specs.declared.lexc.Piece.TheVariants.{Symbol as OfSymbol, Flag as OfFlag}
use Rattle.project_meaning.specs.Trees.{Piece, letter, flag}
use Rattle.project_meaning.specs.Lexicons.{piece_by}
use Rattle.flag_diacritics.specs.Tapes.{flag_of}
use Rattle.flag_diacritics.specs.Numbers.{Keeps}
use Rattle.flag_diacritics.specs.declared.tape.Tape.{Tape}
use Rattle.flag_diacritics.specs.declared.tape.Tape.TheVariants.{Pair as OfPair, UpFlag, LowFlag}
use Rattle.network_lexicons.specs.Plain.{piece_of, symbol_in}
use Rattle.network_lexicons.specs.declared.tapes.First.{First}

-- the flag with a number, if there is one
abbrev pub flag_pieces : List FlagOp → ℕ → List (Piece Sym)
flag_pieces flags n = map (λ f. flag (flag_of f)) (option_to_list (slice_get flags n))

-- what a letter of a tape has on each side
abbrev pub upper_pieces : List FlagOp → Tape → List (Piece Sym)
upper_pieces flags (OfPair pair) = map letter (option_to_list pair.up)
upper_pieces flags (UpFlag n) = flag_pieces flags n
upper_pieces flags (LowFlag n) = []

abbrev pub lower_pieces : List FlagOp → Tape → List (Piece Sym)
lower_pieces flags (OfPair pair) = map letter (option_to_list pair.low)
lower_pieces flags (UpFlag n) = []
lower_pieces flags (LowFlag n) = flag_pieces flags n

abbrev pub upper_side : List FlagOp → List Tape → List (Piece Sym)
upper_side flags tape = flat_map (upper_pieces flags) tape

abbrev pub lower_side : List FlagOp → List Tape → List (Piece Sym)
lower_side flags tape = flat_map (lower_pieces flags) tape

-- a side of an entry, by its symbols
abbrev pub side_of : List (PieceOf Atom) → List (Piece Sym)
side_of pieces = map (piece_by symbol_in) (map piece_of pieces)

-- the flag and the symbol that a side begins with, if it does
abbrev pub first_flag : List (PieceOf Atom) → Option FlagOp
first_flag [] = None
first_flag (OfSymbol leaf ∷ pieces) = None
first_flag (OfFlag f ∷ pieces) = Some f

abbrev pub first_symbol : List (PieceOf Atom) → Option Sym
first_symbol [] = None
first_symbol (OfSymbol leaf ∷ pieces) = Some (symbol_in leaf)
first_symbol (OfFlag f ∷ pieces) = None

-- the letter has so many pieces that two sides begin with
pub record IsFirst (flags : List FlagOp) (upper lower : List (PieceOf Atom)) (first : First) : Type 0 where
  pub some : 0 < first.upper + first.lower
  pub upper_within : first.upper ≤ length upper
  pub lower_within : first.lower ≤ length lower
  pub upper_is : (all : List FlagOp) → Keeps flags all → upper_pieces all first.letter ≡ side_of (take first.upper upper)
  pub lower_is : (all : List FlagOp) → Keeps flags all → lower_pieces all first.letter ≡ side_of (take first.lower lower)

-- the tape has these two sides
pub record HasSides (flags : List FlagOp) (upper lower : List (PieceOf Atom)) (tape : List Tape) : Type 0 where
  pub upper_is : (all : List FlagOp) → Keeps flags all → upper_side all tape ≡ side_of upper
  pub lower_is : (all : List FlagOp) → Keeps flags all → lower_side all tape ≡ side_of lower
