-- Lexicons by the numbers of their symbols in a table and by the places of names.
use Rattle.std.specs.Prelude.{◌≡◌, ℕ, List, map}
use Rattle.regex_ast.specs.declared.expr.Atom.{Atom}
use Rattle.regex_ast.specs.declared.expr.Raw.{Raw}
use Rattle.expr_spelling.specs.Mapped.{mapped_entry, mapped_form, mapped_lexicon}
use Rattle.name_resolution.specs.Numbered.{numbered}
use Rattle.name_resolution.specs.Resolved.{atom_of, letter_of}
use Rattle.project_meaning.specs.Leaves.{resolved_lexicon}
use Rattle.project_meaning.specs.Lexicons.{piece_by}
use Rattle.project_meaning.specs.Trees.{Entry, Form, Lexicon, Piece}

-- names are defined, and a table has the symbols. A leaf of an expression may be a name; a letter on a side is a symbol
module _ (names table : List (List ℕ)) where
  abbrev pub piece_in : Piece Raw → Piece Atom
  piece_in piece = piece_by (letter_of names table) piece

  abbrev pub form_in : Form Raw → Form Atom
  form_in form = mapped_form (atom_of names table) (letter_of names table) form

  abbrev pub entry_in : Entry Raw → Entry Atom
  entry_in entry = mapped_entry (atom_of names table) (letter_of names table) entry

  abbrev pub lexicon_in : Lexicon Raw → Lexicon Atom
  lexicon_in lexicon = mapped_lexicon (atom_of names table) (letter_of names table) lexicon

-- these are the resolved lexicons, each leaf by its number
abbrev pub AreResolvedByNumber : Type 0
AreResolvedByNumber = (names table : List (List ℕ)) (lexicons : List (Lexicon Raw))
    → map (lexicon_in names table) lexicons ≡ map (mapped_lexicon (numbered names table) (numbered names table)) (map (resolved_lexicon names) lexicons)
