-- Lexicons of the program as plain trees, and the symbols of their leaves.
use Rattle.std.specs.Prelude.{ℕ, List, map}
use Rattle.fsm_base.specs.declared.letters.Sym.{Sym as Symbol}
use Rattle.regex_ast.specs.Terms.{term}
use Rattle.regex_ast.specs.declared.expr.Atom.{Atom}
use Rattle.regex_ast.specs.declared.expr.Atom.TheVariants.{Sym, Name}
use Rattle.regex_ast.specs.declared.lexc.Piece.{Piece as PieceOf}
use Rattle.regex_ast.specs.declared.lexc.Piece.TheVariants.{Symbol as OfSymbol, Flag as OfFlag}
use Rattle.regex_ast.specs.declared.lexc.Form.{Form as FormOf}
use Rattle.regex_ast.specs.declared.lexc.Form.TheVariants.{Sides, Pairs}
use Rattle.regex_ast.specs.declared.lexc.Entry.{Entry as EntryOf}
use Rattle.regex_ast.specs.declared.lexc.Lexicon.{Lexicon as LexiconOf}
use Rattle.project_meaning.specs.Trees.{Piece, letter, flag, Form, sides, pairs, Entry, Lexicon}
use Rattle.flag_diacritics.specs.Tapes.{flag_of}

abbrev pub piece_of : PieceOf Atom → Piece Atom
piece_of (OfSymbol leaf) = letter leaf
piece_of (OfFlag f) = flag (flag_of f)

abbrev pub form_of : FormOf Atom → Form Atom
form_of (Sides upper lower) = sides (map piece_of upper.items) (map piece_of lower.items)
form_of (Pairs e) = pairs (term e)

abbrev pub entry_of : EntryOf Atom → Entry Atom
entry_of e = record { form = form_of e.form; next = e.next }

abbrev pub lexicon_of : LexiconOf Atom → Lexicon Atom
lexicon_of l = record { name = l.name; entries = map entry_of l.entries.items }

-- the symbol of a leaf. Names stand in expressions alone: on a side, one would count as the symbol with its number
abbrev pub symbol_in : Atom → Symbol
symbol_in (Sym symbol) = symbol
symbol_in (Name name) = record { 0 = name }

-- the names of lexicons
abbrev pub names_of : List (Lexicon Atom) → List (List ℕ)
names_of lexicons = map (λ lexicon. lexicon.name) lexicons
