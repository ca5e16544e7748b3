-- Lexicons of the program as plain trees, and their lines.
use Rattle.std.specs.Prelude.{ℕ, List, map}
use Rattle.regex_ast.specs.Terms.{term}
use Rattle.regex_ast.specs.declared.lexc.FlagOp.{FlagOp}
use Rattle.regex_ast.specs.declared.lexc.Piece.{Piece as PieceOf}
use Rattle.regex_ast.specs.declared.lexc.Piece.TheVariants.{Symbol as OfSymbol, Flag as OfFlag}
use Rattle.regex_ast.specs.declared.lexc.Form.{Form as FormOf}
use Rattle.regex_ast.specs.declared.lexc.Form.TheVariants.{Sides, Pairs}
use Rattle.regex_ast.specs.declared.lexc.Entry.{Entry as EntryOf}
use Rattle.regex_ast.specs.declared.lexc.Lexicon.{Lexicon as LexiconOf}
use Rattle.project_meaning.specs.Trees.{Flag, Piece, letter, flag, Form, sides, pairs, Entry, Lexicon}

abbrev pub flag_of : FlagOp → Flag
flag_of f = record { kind = f.kind; feature = f.feature; value = f.value }

abbrev pub piece_of : {A : Type 0} → PieceOf A → Piece A
piece_of (OfSymbol leaf) = letter leaf
piece_of (OfFlag f) = flag (flag_of f)

abbrev pub form_of : {A : Type 0} → FormOf A → Form A
form_of (Sides upper lower) = sides (map piece_of upper.items) (map piece_of lower.items)
form_of (Pairs e) = pairs (term e)

abbrev pub entry_of : {A : Type 0} → EntryOf A → Entry A
entry_of e = record { form = form_of e.form; next = e.next }

abbrev pub lexicon_of : {A : Type 0} → LexiconOf A → Lexicon A
lexicon_of l = record { name = l.name; entries = map entry_of l.entries.items }

-- the line of a lexicon, and those of its entries
abbrev pub lines_of : {A : Type 0} → LexiconOf A → ℕ × List ℕ
lines_of l = (l.line, map (λ e. e.line) l.entries.items)
