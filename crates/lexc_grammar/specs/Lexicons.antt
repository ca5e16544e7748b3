-- Lexicons with their lines, and what is known of a lexc text behind its first statements.
use Rattle.std.specs.Prelude.{◌≡◌, ◌+◌, ℕ, List, [], ◌∷◌, ◌++◌, map, Option, None, Some}
use Rattle.std.specs.List.{flat_map}
use Rattle.regex_ast.specs.Terms.{term}
use Rattle.regex_ast.specs.declared.expr.Raw.{Raw}
use Rattle.regex_ast.specs.declared.expr.Raw.TheVariants.{Quoted}
use Rattle.regex_ast.specs.declared.lexc.FlagOp.{FlagOp}
use Rattle.regex_ast.specs.declared.lexc.Piece.{Piece as PieceOf}
use Rattle.regex_ast.specs.declared.lexc.Piece.TheVariants.{Symbol, Flag as FlagPiece}
use Rattle.regex_ast.specs.declared.lexc.Form.{Form as FormOf}
use Rattle.regex_ast.specs.declared.lexc.Form.TheVariants.{Sides, Pairs}
use Rattle.regex_ast.specs.declared.lexc.Entry.{Entry as EntryOf}
use Rattle.regex_ast.specs.declared.lexc.Lexicon.{Lexicon as LexiconOf}
use Rattle.fsm_base.specs.Symbols.{with_text}
use Rattle.project_meaning.specs.Projects.{with_texts}
use Rattle.project_meaning.specs.Trees.{Flag, Piece, letter, flag, Form, sides, pairs, Entry, Lexicon}

-- an entry and a lexicon, with the lines of their first tokens
pub record EntryAt : Type 0 where
  pub line : ℕ
  pub entry : Entry Raw

pub record LexiconAt : Type 0 where
  pub line : ℕ
  pub name : List ℕ
  pub entries : List EntryAt

abbrev pub without_lines : LexiconAt → Lexicon Raw
without_lines lexicon = record { name = lexicon.name; entries = map (λ e. e.entry) lexicon.entries }

-- lexicons of the program as plain trees

abbrev pub flag_of : FlagOp → Flag
flag_of f = record { kind = f.kind; feature = f.feature; value = f.value }

abbrev pub piece_of : PieceOf Raw → Piece Raw
piece_of (Symbol leaf) = letter leaf
piece_of (FlagPiece f) = flag (flag_of f)

abbrev pub form_of : FormOf Raw → Form Raw
form_of (Sides upper lower) = sides (map piece_of upper.items) (map piece_of lower.items)
form_of (Pairs e) = pairs (term e)

abbrev pub entry_of : EntryOf Raw → EntryAt
entry_of e = record { line = e.line; entry = record { form = form_of e.form; next = e.next } }

abbrev pub lexicon_of : LexiconOf Raw → LexiconAt
lexicon_of l = record { line = l.line; name = l.name; entries = map entry_of l.entries.items }

-- the features that the flags of a form are about
abbrev pub feature_in : Piece Raw → List (List ℕ)
feature_in (letter leaf) = []
feature_in (flag f) = f.feature ∷ []

abbrev pub features_in : Form Raw → List (List ℕ)
features_in (sides upper lower) = flat_map feature_in (upper ++ lower)
features_in (pairs e) = []

-- What is known behind statements: the declared symbols that are no flags, by their characters; the lexicons that are finished,
-- and the one whose entries are read, which at first is that of the declared symbols; the names of lexicons; how many entries
-- they have, and the features of their flags.
pub record Known : Type 0 where
  pub declared : List (List ℕ)
  pub finished : List LexiconAt
  pub current : LexiconAt
  pub names : List (List ℕ)
  pub count : ℕ
  pub features : List (List ℕ)

-- at first nothing: the lexicon of the declared symbols has the empty name
abbrev pub nothing_known : Known
nothing_known = record { declared = []; finished = []; current = record { line = 0; name = []; entries = [] }; names = []; count = 0; features = [] }

abbrev pub with_current : LexiconAt → EntryAt → LexiconAt
with_current lexicon entry = record { line = lexicon.line; name = lexicon.name; entries = lexicon.entries ++ entry ∷ [] }

-- a declared symbol, by its characters and its text, is an entry with that symbol on both sides
abbrev pub with_symbol : Known → ℕ → List ℕ → List ℕ → Known
with_symbol known line characters text = record known {
  declared = with_text characters known.declared;
  current = with_current known.current (record { line = line; entry = record { form = sides (letter (Quoted text) ∷ []) (letter (Quoted text) ∷ []); next = None } });
}

-- a new lexicon
abbrev pub with_lexicon : Known → ℕ → List ℕ → Known
with_lexicon known line name = record known {
  finished = known.finished ++ known.current ∷ [];
  current = record { line = line; name = name; entries = [] };
  names = known.names ++ name ∷ [];
}

-- one more entry
abbrev pub with_entry : Known → ℕ → Form Raw → Option (List ℕ) → Known
with_entry known line form next = record known {
  current = with_current known.current (record { line = line; entry = record { form = form; next = next } });
  count = known.count + 1;
  features = with_texts known.features (features_in form);
}

-- all lexicons, that of the declared symbols first
abbrev pub lexicons_of : Known → List LexiconAt
lexicons_of known = known.finished ++ known.current ∷ []
